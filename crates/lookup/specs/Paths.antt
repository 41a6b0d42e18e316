-- What the walk in code answers, by the walk as it is defined.
use Rattle.std.specs.Prelude.{◌≡◌, ℕ, Some, None, Ok, Err, Option, Result}
use Rattle.meaning.specs.Fault.{fault_at}
use Rattle.meaning.specs.FaultRecords.{fault_of}
use Rattle.meaning.specs.Hosts.{Reason}
use Rattle.meaning.specs.Or.{Or, fails, gives}
use Rattle.meaning.specs.Value.{Value}
use Rattle.meaning.specs.Walk.{Walked, found, missed, failed}
use Rattle.meaning.specs.declared.fault.Fault as code
use Rattle.meaning.specs.declared.tree.AccessOp.{AccessOp}
use Rattle.meaning.specs.declared.tree.AccessOp.TheVariants.{Direct, Optional}
use Rattle.meaning.specs.declared.tree.Member.{Member}
use Rattle.store.specs.Stores.{Known, value}
use Rattle.store.specs.declared.cell.Ref.{Ref}
use Rattle.store.specs.declared.memory.Store.{Store}

-- a reference to what was found, a miss, or the fault at the member, in no template yet
abbrev pub Tells : Store → Walked Member → Result (Option Ref) code.Fault → Type 0
Tells s (found v) (Ok (Some r)) = Known s r × (value s r ≡ v)
Tells s (found v) (Ok None) = ⊥
Tells s (found v) (Err f) = ⊥
Tells s missed (Ok (Some r)) = ⊥
Tells s missed (Ok None) = Unit {0}
Tells s missed (Err f) = ⊥
Tells s (failed m cause detail) (Ok o) = ⊥
Tells s (failed m cause detail) (Err f) = fault_of f ≡ fault_at cause m.span detail

-- a value source's answer
abbrev pub Answers : Store → Or Reason Value → Result Ref ℕ → Type 0
Answers s (gives v) (Ok r) = Known s r × (value s r ≡ v)
Answers s (gives v) (Err reason) = ⊥
Answers s (fails why) (Ok r) = ⊥
Answers s (fails why) (Err reason) = reason ≡ why

-- what was found, a miss, or the fault of a direct member
abbrev pub answered : Option Ref → AccessOp → code.Fault → Result (Option Ref) code.Fault
answered (Some r) op absent = Ok (Some r)
answered None Optional absent = Ok None
answered None Direct absent = Err absent
