-- What an instruction of an expression does: it pushes the value that it makes, or faults.
use Rattle.std.specs.Prelude.{◌≡◌, ℕ, ◌<◌, ◌≤◌, List, ◌∷◌, length, Ok, Err, Result}
use Rattle.meaning.specs.Or.{Or, fails, gives}
use Rattle.meaning.specs.Charge.{Charge, charge}
use Rattle.meaning.specs.Fault.{Fault, fault_at}
use Rattle.meaning.specs.declared.fault.Cause.TheVariants.{StoreFull}
use Rattle.meaning.specs.FaultRecords.{fault_of}
use Rattle.meaning.specs.Value.{Value}
use Rattle.meaning.specs.declared.fault.Fault as code
use Rattle.meaning.specs.declared.tree.Span.{Span}
use Rattle.machine.specs.Machine.{most_values}
use Rattle.stack.specs.Entries.{entries, room}
use Rattle.stack.specs.declared.Stack.{Stack}
use Rattle.store.specs.Kinds.{kind_of}
use Rattle.store.specs.Stores.{Over, supply, used, value}
use Rattle.store.specs.declared.cell.Ref.{Ref}
use Rattle.store.specs.declared.kinds.Kind.{Kind}
use Rattle.store.specs.declared.memory.Full.{Full}
use Rattle.store.specs.declared.memory.Store.{Store}
use Rattle.hosts.specs.Answers.{AllKnown, arguments_in}
use Rattle.hosts.specs.declared.answer.Argument.{Argument}
use Rattle.scopes.specs.Told.{Fails}

-- where there is a value to push, there is room for it
abbrev pub RoomFor : Or Fault (Value × Charge) → List Argument → Type 0
RoomFor (gives x) values = length values < most_values
RoomFor (fails f) values = Unit {0}

-- where a value was made, there is a place for it
abbrev pub PlaceFor : Result Ref Full → Stack Argument → Type 0
PlaceFor (Ok r) values = length (entries values) < room values
PlaceFor (Err full) values = Unit {0}

-- what is to be pushed has room on a stack that is large enough
pub record Spare (answer : Or Fault (Value × Charge)) (values : Stack Argument) : Type 0 where
  pub few : RoomFor answer (entries values)
  pub roomy : most_values ≤ room values

-- the value stands on top, reported at the span, and so much is in use
pub record StandsOnTop (before after : Store) (values values' : List Argument) (span : Span) (v : Value) (tally : Charge) : Type 0 where
  pub over : Over before after
  pub known : AllKnown after values'
  pub means : arguments_in after values' ≡ (v, span) ∷ arguments_in before values
  pub paid : used after ≡ tally

abbrev pub Pushes : (before after : Store) (values values' : List Argument) → Span → Or Fault (Value × Charge) → Result (Unit {0}) code.Fault → Type 0
Pushes before after values values' span (gives (v, tally)) (Ok done) = StandsOnTop before after values values' span v tally
Pushes before after values values' span (gives (v, tally)) (Err g) = ⊥
Pushes before after values values' span (fails f) (Ok done) = ⊥
Pushes before after values values' span (fails f) (Err g) = Fails before after f g

-- there are so many values
pub record Enough (arity : ℕ) (values : Stack Argument) : Type 0 where
  pub there : arity ≤ length (entries values)
  pub roomy : most_values ≤ room values

-- there are two values, of which the second is of that kind
pub record Two (s : Store) (values : Stack Argument) (kind : Kind) : Type 0 where
  pub newest : Argument
  pub second : Argument
  pub under : List Argument
  pub are : entries values ≡ newest ∷ second ∷ under
  pub is_kind : kind_of (value s second.value) ≡ kind

-- what becomes of the two newest values, whichever they are: what is made of them is reported where the second was
abbrev pub Joins : (before after : Store) (values values' : List Argument) → (Value → Value → Value) → Charge → Result (Unit {0}) code.Fault → Type 0
Joins before after values values' join more r =
    (newest second : Argument) (under : List Argument) → values ≡ newest ∷ second ∷ under
    → Pushes before after under values' second.span
    (charge (supply before) second.span more (join (value before second.value) (value before newest.value)) (used before)) r

-- a value that was made stands on top; or the store is full, which is reported at the span
abbrev pub Tops : (values values' : List Argument) → Span → Result Ref Full → Result (Unit {0}) code.Fault → Type 0
Tops values values' span (Ok r) (Ok done) = values' ≡ record { value = r; span = span } ∷ values
Tops values values' span (Ok r) (Err g) = ⊥
Tops values values' span (Err full) (Ok done) = ⊥
Tops values values' span (Err full) (Err g) = fault_of g ≡ fault_at StoreFull span 0
