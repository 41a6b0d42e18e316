-- How much of the store is in use, and what that changes.
use Rattle.std.specs.Prelude.{◌≡◌, ℕ, zero, suc, Bool, true, cond, not, List, [], ◌++◌}
use Rattle.meaning.specs.declared.fault.Cause.TheVariants.{StoreFull}
use Rattle.meaning.specs.Or.{gives}
use Rattle.meaning.specs.Value.{Value}
use Rattle.meaning.specs.declared.tree.Span.{Span}
use Rattle.meaning.specs.Tree.{Expr, Stmt, IfElse, With, Scope, done, ◌then◌}
use Rattle.meaning.specs.Spans.{text_at}
use Rattle.meaning.specs.Parts.{truth}
use Rattle.meaning.specs.Scopes.{named}
use Rattle.meaning.specs.Charge.{Charge, within, ◌⊕◌}
use Rattle.meaning.specs.Reading.{finished}
use Rattle.laws.specs.Places.{Place, evaluates, reads_one, reads, seeing, holding, with_room}
use Rattle.laws.specs.GoesOn.{GoesOn}

-- what stands behind a statement that finishes is read as it is alone: as much is in use, and the same is visible
abbrev pub StatementsLeaveNothing : Type 0
StatementsLeaveNothing =
    (at : Place) (stmt : Stmt) (rest : Scope) →
    (reads_one at stmt).end ≡ finished →
    reads at (stmt then rest) ≡ record { events = (reads_one at stmt).events ++ (reads at rest).events; end = (reads at rest).end }

-- An expression that gives a value adds a cost to what is in use; and wherever that cost has room, it gives the same value for the same cost.
abbrev pub ExpressionsHaveACost : Type 0
ExpressionsHaveACost =
    (at : Place) (e : Expr) (v : Value) (held : Charge) →
    evaluates at e ≡ gives (v, held) →
    (added : Charge) × (held ≡ at.used ⊕ added)
    × ((supply used : Charge) → within supply (used ⊕ added) ≡ true → evaluates (with_room at supply used) e ≡ gives (v, used ⊕ added))

-- an if has freed what its expression cost before it reads a branch
abbrev pub IfsKeepNothing : Type 0
IfsKeepNothing =
    (at : Place) (negated : Bool) (e : Expr) (body otherwise : Scope) (v : Value) (held : Charge) →
    evaluates at e ≡ gives (v, held) →
    reads_one at (IfElse negated e body otherwise) ≡ cond (cond negated (not (truth v)) (truth v)) (reads at body) (reads at otherwise)

-- a with keeps what its value cost until its body ends
abbrev pub WithsKeepTheirValue : Type 0
WithsKeepTheirValue =
    (at : Place) (alias : Span) (e : Expr) (body : Scope) (v : Value) (held : Charge) →
    evaluates at e ≡ gives (v, held) →
    reads_one at (With alias e body) ≡ reads (holding (seeing at (named (text_at at.source alias) v)) held) body

-- a statement so many times
abbrev pub times : ℕ → Stmt → Scope
times zero stmt = done
times (suc n) stmt = stmt then times n stmt

abbrev pub copies : {A : Type 0} → ℕ → List A → List A
copies zero xs = []
copies (suc n) xs = xs ++ copies n xs

-- a statement that finishes finishes however often it is repeated, and offers the same each time
abbrev pub RepeatingNeedsNoRoom : Type 0
RepeatingNeedsNoRoom =
    (at : Place) (stmt : Stmt) (n : ℕ) →
    (reads_one at stmt).end ≡ finished →
    reads at (times n stmt) ≡ record { events = copies n (reads_one at stmt).events; end = finished }

-- whether another supply, with so much of it in use, leaves as much room or more: supply less use is not less than here, in cells and in bytes
abbrev pub leaves_as_much : Place → (supply used : Charge) → Bool
leaves_as_much at supply used = within (supply ⊕ at.used) (at.setting.supply ⊕ used)

-- where that is so, the same is read, unless it ends here in a full store
abbrev pub OnlyTheRoomLeftCounts : Type 0
OnlyTheRoomLeftCounts =
    (at : Place) (supply used : Charge) (scope : Scope) →
    leaves_as_much at supply used ≡ true → GoesOn StoreFull (reads at scope) (reads (with_room at supply used) scope)
