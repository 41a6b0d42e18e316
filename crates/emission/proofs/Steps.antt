-- What an instruction that emits comes to, as the step of the machine over that sink.
use Rattle.std.proofs.Common.{◌≡◌, ℕ, List, Ok, Err, refl}
use Rattle.std.proofs.Math.Option.{Option, some}
use Rattle.meaning.specs.Charge.{Charge}
use Rattle.meaning.specs.Fault.{Fault, in_template}
use Rattle.meaning.specs.FaultRecords.{fault_of}
use Rattle.meaning.specs.Hosts.{Sink, Taken, took, stopped}
use Rattle.meaning.specs.Or.{Or, fails, gives}
use Rattle.meaning.specs.Reading.{Event, offers}
use Rattle.meaning.specs.Value.{Text}
use Rattle.meaning.specs.declared.fault.Fault as code
use Rattle.meaning.specs.declared.tree.Span.{Span}
use Rattle.machine.specs.Machine.{Entry, Frame, Held, Next, Open, World, emit_text, faulted, freed, offer, standing, taken}
use Rattle.machine.specs.Promise.{observing}
use Rattle.store.specs.declared.memory.Store.{Store}
use Rattle.emission.specs.Emits.{Emits}
use Rattle.emission.specs.Offers.{Offers}

module _ (sink : Sink) (world : World) (frame : Frame) (next : ℕ) (below : List Open) (scopes : List Entry) (values : List Held)
    (m n : sink.State) (before after : Store) where
  abbrev pub went_on : Next sink.State
  went_on = freed scopes values (λ floor. standing frame next below scopes values floor n)

  abbrev pub ended : code.Fault → Next sink.State
  ended g = faulted (in_template frame.name (fault_of g)) scopes n

  module _ (bytes : List ℕ) (span : Option Span) where
    abbrev pub event : Event
    event = offers (record { bytes = bytes; template = frame.name; span = span })

    abbrev pub after_offer : Taken sink.State → Next sink.State
    after_offer t = taken t event scopes m (λ k. freed scopes values (λ floor. standing frame next below scopes values floor k))

    pub offered : Offers m n bytes span (sink.take m bytes) (Ok tt) → offer (observing sink.take) world frame next below event scopes values m ≡ went_on
    offered h = by (sink.take m bytes) h
      where
        by : (t : Taken sink.State) → Offers m n bytes span t (Ok tt) → after_offer t ≡ went_on
        by (took k) e = rw e refl
        by (stopped level) e = absurd e

    pub not_offered : (g : code.Fault) → Offers m n bytes span (sink.take m bytes) (Err g)
        → offer (observing sink.take) world frame next below event scopes values m ≡ ended g
    not_offered g h = by (sink.take m bytes) h
      where
        by : (t : Taken sink.State) → Offers m n bytes span t (Err g) → after_offer t ≡ ended g
        by (took k) e = absurd e
        by (stopped level) e = rw (e.left, e.is frame.name) refl

  pub emitted : (text : Or Fault ((Text × Span) × Charge)) → Emits before after sink m n text (Ok tt)
      → emit_text (observing sink.take) world frame next below scopes values m text ≡ went_on
  emitted (gives ((text, span), tally)) h = offered text (some span) h.offers
  emitted (fails f) h = absurd h

  pub not_emitted : (text : Or Fault ((Text × Span) × Charge)) (g : code.Fault) → Emits before after sink m n text (Err g)
      → emit_text (observing sink.take) world frame next below scopes values m text ≡ ended g
  not_emitted (gives ((text, span), tally)) g h = not_offered text (some span) g h.offers
  not_emitted (fails f) g h = rw (← h.told.is, h.left) refl
