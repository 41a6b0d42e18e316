-- What the check of a template answers: that it unpacks, or why not.
use Rattle.std.specs.Prelude.{ℕ, Bool, true, false, List, Ok, Err, Result}
use Rattle.meaning.specs.Or.{Or, gives, fails}
use Rattle.meaning.specs.Fault.{Fault, fault}
use Rattle.meaning.specs.FaultRecords.{fault_of}
use Rattle.meaning.specs.declared.fault.Fault as code
use Rattle.packing.specs.Unpacking.{unpack}
use Rattle.reader.specs.declared.refusal.Refusal.{Refusal}
use Rattle.reader.specs.Refusals.{cause_of, offset_of}

-- an answer without the tree that was read
abbrev pub verdict : {A : Type 0} → Or Fault A → Or Fault (Unit {0})
verdict (gives a) = gives tt
verdict (fails f) = fails f

abbrev pub judged : Result (Unit {0}) Refusal → Or Fault (Unit {0})
judged (Ok u) = gives tt
judged (Err e) = fails (fault (cause_of e) (offset_of e))

abbrev pub answered : {A : Type 0} → Result A code.Fault → Or Fault (Unit {0})
answered (Ok a) = gives tt
answered (Err f) = fails (fault_of f)

abbrev pub is_given : {A : Type 0} → Or Fault A → Bool
is_given (gives a) = true
is_given (fails f) = false

-- the bytes are a template's source and tree
abbrev pub unpacks : List ℕ → List ℕ → Bool
unpacks source tree = is_given (unpack source tree)
