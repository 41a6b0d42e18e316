-- A place for what is pushed.
use Rattle.std.proofs.Common.{◌≡◌, ℕ, ◌<◌, ◌≤◌, cond, List, ◌∷◌, length, Ok, Err, Result, ap, subst, arith}
use Rattle.std.proofs.lemmas.Grind.{common_steps}
use Rattle.meaning.specs.Charge.{Charge, ◌⊕◌, charge}
use Rattle.meaning.specs.Fault.{Fault, fault_at}
use Rattle.meaning.specs.declared.fault.Cause.TheVariants.{StoreFull}
use Rattle.meaning.specs.Or.{Or, fails, gives}
use Rattle.meaning.specs.Value.{Value}
use Rattle.meaning.specs.declared.tree.Span.{Span}
use Rattle.machine.specs.Machine.{most_values}
use Rattle.stack.specs.Entries.{Kept, entries, newest_first, room}
use Rattle.stack.specs.declared.Stack.{Stack}
use Rattle.store.specs.Stores.{Made, supply, used}
use Rattle.store.specs.declared.cell.Ref.{Ref}
use Rattle.store.specs.declared.memory.Full.{Full}
use Rattle.store.specs.declared.memory.Store.{Store}
use Rattle.hosts.specs.declared.answer.Argument.{Argument}
use Rattle.scopes.specs.Told.{Tells}
use Rattle.expressions.specs.Pushing.{PlaceFor, RoomFor, Spare}

-- there is always one
pub place_any : (made : Result Ref Full) (values : Stack Argument) → length (entries values) < room values → PlaceFor made values
place_any (Ok r) values free = free
place_any (Err full) values free = tt

-- for a value that is made at its charge
pub made_place : (before after : Store) (more : Charge) (v : Value) (made : Result Ref Full) (span : Span) (values : Stack Argument)
    → Made before after more v made → Spare (charge (supply before) span more v (used before)) values → PlaceFor made values
made_place before after more v (Ok r) span values m spare =
    let few : length (entries values) < most_values =
    subst (λ b. RoomFor (cond b (gives (v, used before ⊕ more)) (fails (fault_at StoreFull span 0))) (entries values)) m.0 spare.few in
    omega (arith, few, spare.roomy)
made_place before after more v (Err full) span values m spare = tt

fewer : {X : Type 0} (slots : List X) (len : ℕ) → len ≤ length slots → length (newest_first slots len) ≤ length slots
unfolding newest_first
fewer slots len h = grind (arith, common_steps)

-- where one was taken off
pub popped_place : {X : Type 0} (before after : Stack X) (x : X) → entries before ≡ x ∷ entries after → Kept before after → length (entries after) < room after
popped_place {X} before after x popped kept =
    let more = fewer before.slots.now before.len before.inside in
    let one = ap (λ (all : List X). length all) popped in
    omega (arith, more, one, kept.same_room)

-- for an answer
pub told_few : (before after : Store) (answer : Or Fault (Value × Charge)) (r : Ref) (values : List Argument) → Tells before after answer (Ok r)
    → RoomFor answer values → length values < most_values
told_few before after (gives x) r values told few = few
told_few before after (fails f) r values told few = absurd told
