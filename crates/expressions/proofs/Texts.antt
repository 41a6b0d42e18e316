-- Texts that are written: within the buffer, and the ways of an emitted call.
use Rattle.std.proofs.Common.{◌≡◌, ℕ, ◌<◌, ◌≤◌, List, [], ◌∷◌, length, get_or, Some, Ok, Err, Result, arith}
use Rattle.meaning.specs.Charge.{Charge}
use Rattle.meaning.specs.Expressions.{Argument as Meant, ask_function, called, emit_call, write}
use Rattle.meaning.specs.Fault.{Fault}
use Rattle.meaning.specs.Hosts.{Callable, nothing, formatter, function}
use Rattle.meaning.specs.Or.{Or, fails, gives}
use Rattle.meaning.specs.Reading.{Setting}
use Rattle.meaning.specs.Scopes.{Visible}
use Rattle.meaning.specs.Step.{continue}
use Rattle.meaning.specs.Value.{Text, Value}
use Rattle.meaning.specs.declared.fault.Fault as code
use Rattle.meaning.specs.declared.tree.Span.{Span}
use Rattle.store.specs.Stores.{Over, used, value}
use Rattle.store.specs.declared.cell.Ref.{Ref}
use Rattle.store.specs.declared.memory.Store.{Store}
use Rattle.hosts.specs.Answers.{Within, arguments_in, formatter_of, function_of, kind_of}
use Rattle.hosts.specs.declared.answer.Argument.{Argument}
use Rattle.hosts.specs.declared.answer.CallableKind.TheVariants as kinds
use Rattle.hosts.specs.declared.answer.Unwritten.{Unwritten}
use Rattle.scopes.specs.Told.{Tells}
use Rattle.expressions.specs.Emitting.{Writes}
use Rattle.expressions.specs.declared.emitting.Written.{Written}

pub within_new : (text : Result ℕ Unwritten) (old new : List ℕ) → length new ≡ length old → Within text old → Within text new
within_new (Ok n) old new e h = rw e h
within_new (Err why) old new e h = tt

-- what is written over a store with more on top is written over the one before
over_before : (before after : Store) (buffer : List ℕ) (text : Or Fault ((Text × Span) × Charge)) (w : Result Written code.Fault)
    → Over before after → Writes after after buffer text w → Writes before after buffer text w
over_before before after buffer (gives ((text, span), tally)) (Ok w) o h =
    record { over = o; within = h.within; bytes = h.bytes; reported = h.reported; paid = h.paid }
over_before before after buffer (gives ((text, span), tally)) (Err g) o h = absurd h
over_before before after buffer (fails f) (Ok w) o h = absurd h
over_before before after buffer (fails f) (Err g) o h = record { over = o; is = h.is }

module _ (setting : Setting) (source : List ℕ) (visible : List Visible) (name whole : Span) (buffer : List ℕ) (w : Result Written code.Fault) where
  -- a function's answer, and then the default formatter's text
  pub after_function : (before after : Store) (r : Ref) (args : List Meant) (callable : Callable) → called setting source visible name ≡ callable
      → kind_of callable ≡ Some kinds.Function
      → Tells before after (ask_function setting.supply (function_of callable) name whole args (used before)) (Ok r)
      → Writes after after buffer (write setting source visible setting.hosts.default_formatter whole (value after r) (used after)) w
      → Writes before after buffer (emit_call setting source visible name whole args (used before)) w
  after_function before after r args nothing is k told wrote = absurd cc
  after_function before after r args (formatter f) is k told wrote = absurd cc
  after_function before after r args (function f) is k told wrote = rw (is, emit_call) (on _ told)
    where
      on : (answer : Or Fault (Value × Charge)) → Tells before after answer (Ok r)
          → Writes before after buffer (continue answer (write setting source visible setting.hosts.default_formatter whole)) w
      on (gives (v, tally)) held = over_before before after buffer _ w held.over (rw (held.means, held.paid) at wrote)
      on (fails f) told = absurd told

  -- the text of a formatter's one argument
  pub of_formatter : (s : Store) (args : List Argument) (d : Argument) (callable : Callable) → called setting source visible name ≡ callable
      → kind_of callable ≡ Some kinds.Formatter → 1 ≤ length args → length args < 2
      → Writes s s buffer (write setting source visible (formatter_of callable) name (value s (get_or args 0 d).value) (used s)) w
      → Writes s s buffer (emit_call setting source visible name whole (arguments_in s args) (used s)) w
  of_formatter s [] d callable is k some one wrote = absurd (omega arith)
  of_formatter s (a ∷ b ∷ more) d callable is k some one wrote = absurd (omega arith)
  of_formatter s (a ∷ []) d nothing is k some one wrote = absurd cc
  of_formatter s (a ∷ []) d (formatter f) is k some one wrote = rw (is, emit_call) wrote
  of_formatter s (a ∷ []) d (function f) is k some one wrote = absurd cc
