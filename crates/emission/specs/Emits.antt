-- What an instruction that emits comes to: a text is offered to the sink, or there is none.
use Rattle.std.specs.Prelude.{◌≡◌, ℕ, List, ◌∷◌, Ok, Err, Result}
use Rattle.std.proofs.Math.Option.{some}
use Rattle.meaning.specs.Or.{Or, fails, gives}
use Rattle.meaning.specs.Charge.{Charge}
use Rattle.meaning.specs.Expressions.{write}
use Rattle.meaning.specs.Fault.{Fault}
use Rattle.meaning.specs.Hosts.{Formatter, Sink}
use Rattle.meaning.specs.Reading.{Setting}
use Rattle.meaning.specs.Scopes.{Visible}
use Rattle.meaning.specs.Value.{Text}
use Rattle.meaning.specs.declared.fault.Fault as code
use Rattle.meaning.specs.declared.tree.Span.{Span}
use Rattle.store.specs.Stores.{Over, used, value}
use Rattle.store.specs.declared.memory.Store.{Store}
use Rattle.hosts.specs.declared.answer.Argument.{Argument}
use Rattle.scopes.specs.Told.{Fails}
use Rattle.emission.specs.Offers.{Offers}

module _ (before after : Store) (sink : Sink) (m n : sink.State) where
  -- the text was offered, with so much of the store in use
  pub record OffersMade (text : Text) (span : Span) (tally : Charge) (r : Result (Unit {0}) code.Fault) : Type 0 where
    pub over : Over before after
    pub paid : used after ≡ tally
    pub offers : Offers m n text (some span) (sink.take m text) r

  -- nothing was offered
  pub record Silent (f : Fault) (g : code.Fault) : Type 0 where
    pub told : Fails before after f g
    pub left : n ≡ m

  abbrev pub Emits : Or Fault ((Text × Span) × Charge) → Result (Unit {0}) code.Fault → Type 0
  Emits (gives ((text, span), tally)) r = OffersMade text span tally r
  Emits (fails f) (Ok done) = ⊥
  Emits (fails f) (Err g) = Silent f g

-- the newest value's text by that formatter, reported where the value is
abbrev pub EmitsNewest : Store → (sink : Sink) (m n : sink.State) → Formatter → (values : List Argument) → Result (Unit {0}) code.Fault → Type 0
EmitsNewest s sink m n format values r =
    (newest : Argument) (under : List Argument) → values ≡ newest ∷ under → (setting : Setting) (source : List ℕ) (visible : List Visible)
    → Emits s s sink m n (write setting source visible format newest.span (value s newest.value) (used s)) r
