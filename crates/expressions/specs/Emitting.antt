-- What an inline expression comes to: a text that is about to be offered, or a fault.
use Rattle.std.specs.Prelude.{◌≡◌, ℕ, ◌≤◌, List, ◌∷◌, length, take, Ok, Err, Result}
use Rattle.meaning.specs.Or.{Or, fails, gives}
use Rattle.meaning.specs.Charge.{Charge}
use Rattle.meaning.specs.Expressions.{write}
use Rattle.meaning.specs.Fault.{Fault}
use Rattle.meaning.specs.Hosts.{Formatter}
use Rattle.meaning.specs.Reading.{Setting}
use Rattle.meaning.specs.Scopes.{Visible}
use Rattle.meaning.specs.Value.{Text}
use Rattle.meaning.specs.declared.fault.Fault as code
use Rattle.meaning.specs.declared.tree.Span.{Span}
use Rattle.store.specs.Stores.{Over, used, value}
use Rattle.store.specs.declared.memory.Store.{Store}
use Rattle.hosts.specs.declared.answer.Argument.{Argument}
use Rattle.scopes.specs.Told.{Fails}
use Rattle.expressions.specs.declared.emitting.Written.{Written}

-- the text stands at the front of the buffer, with where a stop is reported, and so much is in use
pub record Stands (before after : Store) (buffer : List ℕ) (text : Text) (span : Span) (tally : Charge) (w : Written) : Type 0 where
  pub over : Over before after
  pub within : w.len ≤ length buffer
  pub bytes : take w.len buffer ≡ text
  pub reported : w.span ≡ span
  pub paid : used after ≡ tally

abbrev pub Writes : (before after : Store) (buffer : List ℕ) → Or Fault ((Text × Span) × Charge) → Result Written code.Fault → Type 0
Writes before after buffer (gives ((text, span), tally)) (Ok w) = Stands before after buffer text span tally w
Writes before after buffer (gives ((text, span), tally)) (Err g) = ⊥
Writes before after buffer (fails f) (Ok w) = ⊥
Writes before after buffer (fails f) (Err g) = Fails before after f g

-- the newest value's text by that formatter, reported where the value is
abbrev pub WritesNewest : Store → (buffer : List ℕ) → Formatter → (values : List Argument) → Result Written code.Fault → Type 0
WritesNewest s buffer format values r =
    (newest : Argument) (under : List Argument) → values ≡ newest ∷ under → (setting : Setting) (source : List ℕ) (visible : List Visible)
    → Writes s s buffer (write setting source visible format newest.span (value s newest.value) (used s)) r
