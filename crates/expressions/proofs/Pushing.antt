-- A value that is made and pushed.
use Rattle.std.proofs.Common.{◌≡◌, List, ◌∷◌, Ok, Err, Result, sym, ap, ◌∙◌, subst, ap₂}
use Rattle.meaning.specs.Charge.{Charge, ◌⊕◌, charge}
use Rattle.meaning.specs.Expressions.{Argument as Meant}
use Rattle.meaning.specs.Fault.{Fault}
use Rattle.meaning.specs.Or.{Or, fails, gives}
use Rattle.meaning.specs.Value.{Value}
use Rattle.meaning.specs.declared.fault.Fault as code
use Rattle.meaning.specs.declared.tree.Span.{Span}
use Rattle.store.specs.Stores.{Added, Made, supply, used, value}
use Rattle.store.specs.declared.cell.Ref.{Ref}
use Rattle.store.specs.declared.memory.Full.{Full}
use Rattle.store.specs.declared.memory.Store.{Store}
use Rattle.store.proofs.Stores.{over_same}
use Rattle.hosts.specs.Answers.{AllKnown, arguments_in}
use Rattle.hosts.specs.declared.answer.Argument.{Argument}
use Rattle.hosts.proofs.Arguments.{all_known_over, arguments_over}
use Rattle.scopes.specs.Told.{Holds, Tells}
use Rattle.expressions.specs.Pushing.{Joins, Pushes, StandsOnTop, Tops}

module _ (before after : Store) (values values' : List Argument) (span : Span) where
  on_top : (r : Ref) (v : Value) (tally : Charge) → AllKnown before values → Holds before after v tally r → values' ≡ record { value = r; span = span } ∷ values
      → StandsOnTop before after values values' span v tally
  on_top r v tally known held e = record {
    over = held.over;
    known = subst (AllKnown after) (sym e) (held.known, all_known_over before after values held.over known);
    means = ap (arguments_in after) e ∙ ap₂ (λ (w : Value) (rest : List Meant). (w, span) ∷ rest) held.means (arguments_over before after values held.over known);
    paid = held.paid;
  }

  -- a value that is told of stands on top
  pub told_top : (answer : Or Fault (Value × Charge)) (r : Ref) → AllKnown before values → Tells before after answer (Ok r)
      → values' ≡ record { value = r; span = span } ∷ values → Pushes before after values values' span answer (Ok tt)
  told_top (gives (v, tally)) r known held e = on_top r v tally known held e
  told_top (fails f) r known held e = absurd held

module _ (before after : Store) (values values' : List Argument) (span : Span) (more : Charge) (v : Value) where
  held : (r : Ref) → Added before after more v r → Holds before after v (used before ⊕ more) r
  held r added = record { over = added.grown.over; known = added.known; means = added.means; paid = added.grown.paid }

  pub makes_top : (made : Result Ref Full) (r : Result (Unit {0}) code.Fault) → AllKnown before values → Made before after more v made
      → Tops values values' span made r → Pushes before after values values' span (charge (supply before) span more v (used before)) r
  makes_top (Ok x) (Ok done) known made top = rw made.0 (on_top before after values values' span x v (used before ⊕ more) known (held x made.1) top)
  makes_top (Ok x) (Err g) known made top = absurd top
  makes_top (Err full) (Ok done) known made top = absurd top
  makes_top (Err full) (Err g) known made top = rw made.0 (record { over = over_same before after made.1; is = top })

-- two values, of which one is made
pub joins : (before after : Store) (values rest under values' : List Argument) (newest second : Argument) (join : Value → Value → Value) (more : Charge)
    (made : Result Ref Full) (r : Result (Unit {0}) code.Fault)
    → values ≡ newest ∷ rest → rest ≡ second ∷ under → AllKnown before values
    → Made before after more (join (value before second.value) (value before newest.value)) made
    → Tops under values' second.span made r → Joins before after values values' join more r
joins before after values rest under values' newest second join more made r e f known m top n s u g =
    let same_newest : n ≡ newest = cc in
    let same_second : s ≡ second = cc in
    let same_under : u ≡ under = cc in
    rw (same_newest, same_second, same_under)
    (makes_top before after under values' second.span more _ made r (rw (e, f) at known).1.1 m top)
