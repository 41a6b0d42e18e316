-- Readings in order.
use Rattle.std.proofs.Common.{◌≡◌, List, [], ◌∷◌, ◌++◌, sym, refl, ap, ◌∙◌, subst}
use Rattle.meaning.specs.Tree.{Scope, done, ◌then◌}
use Rattle.meaning.specs.Fault.{Fault}
use Rattle.meaning.specs.Hosts.{Sink, Taken, took, stopped}
use Rattle.meaning.specs.Reading.{Piece, Event, offers, End, finished, faulted, Reading, ◌followed_by◌}
use Rattle.meaning.specs.Statements.{read_stmt}
use Rattle.meaning.specs.Offering.{stopped_at, offer_all}
use Rattle.meaning.specs.SinkLaws.{sink_of}
use Rattle.meaning.proofs.Laws.{readings_join}
use Rattle.laws.specs.Places.{Place, reads_one, reads}
use Rattle.laws.specs.Order.{◌and_then◌, ScopesReadInOrder, FaultsEndReading, next_offered, SinksAreOfferedInOrder}

abbrev pub reading_of : List Event → End → Reading
reading_of events end = record { events = events; end = end }

-- a reading that finishes and one that faults
then_faults : (a b : List Event) (x y : End) (fault : Fault) (c : Reading) → x ≡ finished → y ≡ faulted fault →
    reading_of a x followed_by (reading_of b y followed_by c) ≡ reading_of (a ++ b) (faulted fault)
then_faults a b x y fault c e f =
    subst (λ (z : End). reading_of a z followed_by (reading_of b y followed_by c) ≡ reading_of (a ++ b) (faulted fault)) (sym e)
    (subst (λ (z : End). reading_of a finished followed_by (reading_of b z followed_by c) ≡ reading_of (a ++ b) (faulted fault)) (sym f) refl)

in_two : (at : Place) (first second : Scope) → reads at (first and_then second) ≡ reads at first followed_by reads at second
unfolding read_stmt
in_two at done second = refl
in_two at (stmt then rest) second =
    ap (λ (r : Reading). reads_one at stmt followed_by r) (in_two at rest second)
    ∙ sym (readings_join.2 (reads_one at stmt) (reads at rest) (reads at second))

pub scopes_read_in_order : ScopesReadInOrder
scopes_read_in_order = in_two

pub faults_end_reading : FaultsEndReading
unfolding read_stmt
faults_end_reading at first stmt rest fault e f =
    in_two at first (stmt then rest)
    ∙ then_faults (reads at first).events (reads_one at stmt).events (reads at first).end (reads_one at stmt).end fault (reads at rest) e f

-- SINKS

module _ (sink : Sink) where
  -- by what the sink does at a piece, where the rest is known
  at_piece : (piece : Piece) (second : Reading) (there : sink.State) (next before : sink.State → End × sink.State) →
      ((n : sink.State) → next n ≡ next_offered sink second (before n)) → (t : Taken sink.State) →
      ◌≡◌ {A = End × sink.State} (elim t [ took n ↦ next n | stopped level ↦ (faulted (stopped_at piece level), there) ])
      (next_offered sink second (elim t [ took n ↦ before n | stopped level ↦ (faulted (stopped_at piece level), there) ]))
  at_piece piece second there next before known (took n) = known n
  at_piece piece second there next before known (stopped level) = refl

  goes_on : (events : List Event) (second : Reading) (there : sink.State) →
      offer_all sink (events ++ second.events) second.end there ≡ next_offered sink second (offer_all sink events finished there)
  goes_on [] second there = refl
  goes_on (offers piece ∷ events) second there =
      at_piece piece second there (offer_all sink (events ++ second.events) second.end) (offer_all sink events finished) (goes_on events second)
      (sink.take there piece.bytes)

  ends_there : (events : List Event) (fault : Fault) (second : Reading) (there : sink.State) →
      offer_all sink events (faulted fault) there ≡ next_offered sink second (offer_all sink events (faulted fault) there)
  ends_there [] fault second there = refl
  ends_there (offers piece ∷ events) fault second there =
      at_piece piece second there (offer_all sink events (faulted fault)) (offer_all sink events (faulted fault)) (ends_there events fault second)
      (sink.take there piece.bytes)

  one_then_other : (events : List Event) (end : End) (second : Reading) (there : sink.State) →
      offer_all sink (reading_of events end followed_by second).events (reading_of events end followed_by second).end there
      ≡ next_offered sink second (offer_all sink events end there)
  one_then_other events finished second there = goes_on events second there
  one_then_other events (faulted fault) second there = ends_there events fault second there

pub sinks_are_offered_in_order : SinksAreOfferedInOrder
sinks_are_offered_in_order t first second there = one_then_other (sink_of t) first.events first.end second there
