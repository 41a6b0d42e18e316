-- What a walk comes to, wherever in the path it ends.
use Rattle.std.specs.Prelude.{◌≡◌, List, Some, None, Ok, Err, Result}
use Rattle.std.specs.declared.option.Option as code
use Rattle.std.proofs.Math.Option.{Option, none, some}
use Rattle.meaning.specs.declared.fault.Cause.{Cause}
use Rattle.meaning.specs.Or.{Or, fails, gives}
use Rattle.meaning.specs.Value.{Value}
use Rattle.meaning.specs.declared.tree.AccessOp.{AccessOp}
use Rattle.meaning.specs.declared.tree.AccessOp.TheVariants.{Direct, Optional}
use Rattle.meaning.specs.Walk.{Ask, Wanted, Walked, found, missed, failed, part, walk}

-- the value, that there is none, or the cause
abbrev pub outcome : Walked Ask → Or Cause (Option Value)
outcome (found v) = gives (some v)
outcome missed = gives none
outcome (failed at cause detail) = fails cause

-- of one member
abbrev pub part_outcome : Value → AccessOp → Wanted → Or Cause (Option Value)
part_outcome v op wanted = outcome (part (λ x. x) v (record { op = op; wanted = wanted }))

-- of a whole path
abbrev pub path_outcome : Value → List Ask → Or Cause (Option Value)
path_outcome v path = outcome (walk (λ x. x) v path)

-- what was found, a miss, or the cause for a direct member
abbrev pub absent_or : {T : Type 0} → code.Option T → AccessOp → Cause → Result (code.Option T) Cause
absent_or (Some part) op absent = Ok (Some part)
absent_or None Direct absent = Err absent
absent_or None Optional absent = Ok None

-- a place was found where the part stands, or there is no part
abbrev pub FoundIn : {P : Type 0} → (P → Value → Type 0) → Option Value → code.Option P → Type 0
FoundIn stands (some v) (Some place) = stands place v
FoundIn stands (some v) None = ⊥
FoundIn stands none (Some place) = ⊥
FoundIn stands none None = Unit {0}

-- the same, or the cause
abbrev pub Tells : {P : Type 0} → (P → Value → Type 0) → Or Cause (Option Value) → Result (code.Option P) Cause → Type 0
Tells stands (gives o) (Ok place) = FoundIn stands o place
Tells stands (gives o) (Err cause) = ⊥
Tells stands (fails cause) (Ok place) = ⊥
Tells stands (fails cause) (Err other) = other ≡ cause
