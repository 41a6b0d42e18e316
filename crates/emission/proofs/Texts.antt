-- The newest value's text on its way to the sink.
use Rattle.std.proofs.Common.{◌≡◌, ℕ, ◌<◌, ◌≤◌, List, [], ◌∷◌, length, take, Ok, Err, Result, refl, arith}
use Rattle.std.proofs.Math.Option.{some}
use Rattle.meaning.specs.Charge.{Charge}
use Rattle.meaning.specs.Fault.{Fault}
use Rattle.meaning.specs.Hosts.{Formatter, Sink, nothing}
use Rattle.meaning.specs.Or.{Or, fails, gives}
use Rattle.meaning.specs.Value.{Text}
use Rattle.meaning.specs.declared.fault.Fault as code
use Rattle.meaning.specs.declared.tree.Span.{Span}
use Rattle.store.specs.Stores.{used}
use Rattle.store.specs.declared.memory.Store.{Store}
use Rattle.hosts.specs.declared.answer.Argument.{Argument}
use Rattle.expressions.specs.Calling.{asking}
use Rattle.expressions.specs.Emitting.{Writes, WritesNewest}
use Rattle.expressions.specs.declared.emitting.Written.{Written}
use Rattle.emission.specs.Offers.{Offers}
use Rattle.emission.specs.Emits.{Emits, EmitsNewest}

module _ (s : Store) (sink : Sink) (m n : sink.State) (buffer : List ℕ) where
  inside : (text : Or Fault ((Text × Span) × Charge)) (w : Written) → Writes s s buffer text (Ok w) → w.len ≤ length buffer
  inside (gives ((text, span), tally)) w h = h.within
  inside (fails f) w h = absurd h

  offered : (text : Or Fault ((Text × Span) × Charge)) (w : Written) (r : Result (Unit {0}) code.Fault) → Writes s s buffer text (Ok w)
      → Offers m n (take w.len buffer) (some w.span) (sink.take m (take w.len buffer)) r → Emits s s sink m n text r
  offered (gives ((text, span), tally)) w r h o = record { over = h.over; paid = h.paid; offers = rw (h.bytes, h.reported) at o }
  offered (fails f) w r h o = absurd h

  silent : (text : Or Fault ((Text × Span) × Charge)) (g : code.Fault) → Writes s s buffer text (Err g) → Emits s s sink m m text (Err g)
  silent (gives ((text, span), tally)) g h = absurd h
  silent (fails f) g h = record { told = h; left = refl }

  module _ (format : Formatter) (values : List Argument) where
    pub newest_inside : (w : Written) → 0 < length values → WritesNewest s buffer format values (Ok w) → w.len ≤ length buffer
    newest_inside w there wrote = by values there wrote
      where
        by : (values : List Argument) → 0 < length values → WritesNewest s buffer format values (Ok w) → w.len ≤ length buffer
        by [] there wrote = absurd (omega arith)
        by (v ∷ under) there wrote = inside _ w (wrote v under refl (asking (used s) (λ name. nothing) format) [] [])

    pub newest_offered : (w : Written) (r : Result (Unit {0}) code.Fault) → WritesNewest s buffer format values (Ok w)
        → Offers m n (take w.len buffer) (some w.span) (sink.take m (take w.len buffer)) r → EmitsNewest s sink m n format values r
    newest_offered w r wrote o = λ v under e setting source visible. offered _ w r (wrote v under e setting source visible) o

    pub newest_silent : (g stop : code.Fault) (r : Result (Unit {0}) code.Fault) → WritesNewest s buffer format values (Err g)
        → r ≡ Err stop → stop ≡ g → EmitsNewest s sink m m format values r
    newest_silent g stop r wrote is same = rw (is, same) (λ v under e setting source visible. silent _ g (wrote v under e setting source visible))
