-- The text of a reading.
use Rattle.std.proofs.Common.{◌≡◌, ℕ, ◌+◌, ◌-◌, ◌≤◌, Bool, cond, List, [], ◌∷◌, ◌++◌, length, sym, refl, ap, ◌∙◌, subst, append_assoc, append-nil, length-append, arith, le-leb}
use Rattle.meaning.specs.Tree.{done, ◌then◌}
use Rattle.meaning.specs.Hosts.{took, stopped}
use Rattle.meaning.specs.Sinks.{page}
use Rattle.meaning.specs.Reading.{Event, offers, End, finished, faulted, ◌followed_by◌, text}
use Rattle.meaning.specs.Offering.{stopped_at, offer_all}
use Rattle.meaning.specs.Statements.{read_stmt}
use Rattle.meaning.proofs.SinkLaws.{one_piece}
use Rattle.laws.specs.Places.{reads_one, reads}
use Rattle.laws.specs.Text.{TextsAreWritten, texts, TextsAreJoined, sink_over, TextsAreOnePiece}

-- WHAT IS WRITTEN

pub texts_are_written : TextsAreWritten
texts_are_written [] end size there room = ap (λ (bytes : List ℕ). (end, bytes)) (sym (append-nil there))
texts_are_written (offers piece ∷ events) end size there room =
    let long : length (piece.bytes ++ text events) ≡ length piece.bytes + length (text events) = length-append piece.bytes (text events) in
    let longer : length (there ++ piece.bytes) ≡ length there + length piece.bytes = length-append there piece.bytes in
    let first : length piece.bytes ≤ size - length there = omega (arith, room, long) in
    let further : length (there ++ piece.bytes) + length (text events) ≤ size = omega (arith, room, long, longer) in
    ap taken (le-leb (length piece.bytes) (size - length there) first)
    ∙ texts_are_written events end size (there ++ piece.bytes) further
    ∙ ap (λ (bytes : List ℕ). (end, bytes)) (append_assoc there piece.bytes (text events))
  where
    taken : Bool → End × List ℕ
    taken x = elim (cond x (took (there ++ piece.bytes)) (stopped 0)) [
      | took n ↦ offer_all (page size) events end n
      | stopped level ↦ (faulted (stopped_at piece level), there)
    ]

-- STATEMENTS

abbrev Faulted : End → Type 0
Faulted finished = ⊥
Faulted (faulted f) = Unit {0}

pub text_join : (a b : List Event) → text (a ++ b) ≡ text a ++ text b
text_join [] b = refl
text_join (offers piece ∷ a) b = ap (λ (bytes : List ℕ). piece.bytes ++ bytes) (text_join a b) ∙ sym (append_assoc piece.bytes (text a) (text b))

pub texts_are_joined : TextsAreJoined
unfolding read_stmt
texts_are_joined at done e = refl
texts_are_joined at (stmt then rest) e = by (reads_one at stmt).events (reads_one at stmt).end e (texts_are_joined at rest)
  where
    by : (events : List Event) (end : End) → (record { events = events; end = end } followed_by reads at rest).end ≡ finished →
        ((reads at rest).end ≡ finished → text (reads at rest).events ≡ texts at rest) →
        text (record { events = events; end = end } followed_by reads at rest).events ≡ text events ++ texts at rest
    by events finished e deeper = text_join events (reads at rest).events ∙ ap (λ (bytes : List ℕ). text events ++ bytes) (deeper e)
    by events (faulted f) e deeper = absurd (subst Faulted e tt)

-- SINKS

pub texts_are_one_piece : (State : Type 0) → TextsAreOnePiece State
texts_are_one_piece State highest take lawful = one_piece (sink_over State highest take) lawful
