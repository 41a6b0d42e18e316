-- What measuring answers, by the outcomes of readers.
use Rattle.std.specs.Prelude.{ℕ, zero, suc, ◌+◌, ◌<◌, ◌≤◌, List, length, Ok, Err, Result}
use Rattle.meaning.specs.Charge.{Charge, cost}
use Rattle.meaning.specs.Fault.{Fault, fault}
use Rattle.meaning.specs.FaultRecords.{fault_of}
use Rattle.meaning.specs.Or.{Or, fails, gives}
use Rattle.meaning.specs.Step.{return, ◌>>=◌, ◌>>◌}
use Rattle.meaning.specs.Value.{Value}
use Rattle.meaning.specs.declared.fault.Cause.TheVariants.{TooDeep}
use Rattle.meaning.specs.declared.fault.Fault as code
use Rattle.packing.specs.Commands.{ValueByte}
use Rattle.packing.specs.Reader.{Outcome, read, refused, Reader, ensure}
use Rattle.packing.specs.Unpacking.{literal_value, nothing_below, room_at, value_of, value_within}
use Rattle.reader.specs.Refusals.{cause_of, offset_of}
use Rattle.reader.specs.declared.refusal.Refusal.{Refusal}
use Rattle.values.specs.Costs.{charge_of}
use Rattle.values.specs.declared.cost.Cost.{Cost}

-- what was read, by what it costs
abbrev pub weigh : {A : Type 0} → (A → Charge) → Outcome A → Outcome Charge
weigh f (gives (a, s)) = read (f a) s
weigh f (fails (cause, left)) = refused cause left

-- what reads the parts of a value that may have so many levels
abbrev pub parts_within : (levels : ℕ) → Reader Value
parts_within zero = nothing_below
parts_within (suc levels) = value_within levels

-- the rest of a value, after its byte; `at` is how many bytes were left where it begins
abbrev pub rest_within : (levels at : ℕ) → ValueByte → Reader Value
rest_within levels at = value_of at (room_at levels) (parts_within levels)

-- a value without parts
abbrev pub plain_within : (levels : ℕ) → Reader Value
plain_within levels s = (literal_value >>= λ v. ensure (room_at levels) TooDeep (length s) >> return v) s

-- what was measured ends within the bytes, and has no more values, parts or bytes of text than bytes
pub record Ends (bytes : List ℕ) (pos : ℕ) (c : Cost) (next : ℕ) : Type 0 where
  pub inside : next ≤ length bytes
  pub values : pos + c.values ≤ next
  pub parts : pos + c.parts ≤ next
  pub text : pos + c.bytes ≤ next

-- the parts of a value in a row
abbrev pub PartsMove : List ℕ → ℕ → Result (Cost × ℕ) Refusal → Type 0
PartsMove bytes pos (Ok r) = Ends bytes pos r.0 r.1
PartsMove bytes pos (Err e) = offset_of e ≤ length bytes

-- a value, which has a byte besides its parts
abbrev pub ValueMoves : List ℕ → ℕ → Result (Cost × ℕ) Refusal → Type 0
ValueMoves bytes pos (Ok r) = Ends bytes pos r.0 r.1 × (pos + r.0.parts < r.1)
ValueMoves bytes pos (Err e) = offset_of e ≤ length bytes

-- THE WHOLE

-- what the unpacked value costs, or the fault
abbrev pub priced : Or Fault Value → Or Fault Charge
priced (gives v) = gives (cost v)
priced (fails f) = fails f

abbrev pub judged : Result Cost Refusal → Or Fault Charge
judged (Ok c) = gives (charge_of c)
judged (Err e) = fails (fault (cause_of e) (offset_of e))

abbrev pub answered : Result Cost code.Fault → Or Fault Charge
answered (Ok c) = gives (charge_of c)
answered (Err f) = fails (fault_of f)
