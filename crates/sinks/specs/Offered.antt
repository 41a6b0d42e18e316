-- What an offer answers and leaves in code, from what the sink does in meaning.
use Rattle.std.specs.Prelude.{ℕ, List, [], ◌∷◌, ◌++◌, Ok, Err, Result}
use Rattle.meaning.specs.Hosts.{Sink, Taken, took, stopped}

-- the answer, or the level of the stop; and the state that is left
pub record Offered (M : Type 0) : Type 0 where
  pub answer : Result (Unit {0}) ℕ
  pub left : M

-- a stop leaves the state as it was
abbrev pub answering : {M : Type 0} → M → Taken M → Offered M
answering m (took n) = record { answer = Ok tt; left = n }
answering m (stopped level) = record { answer = Err level; left = m }

abbrev pub came : {M : Type 0} → Result (Unit {0}) ℕ → M → Offered M
came answer left = record { answer = answer; left = left }

-- the same as what a sink does at one piece
abbrev pub as_one : {M : Type 0} → Offered M → Taken M
as_one o = elim o.answer [ Ok done ↦ took o.left | Err level ↦ stopped level ]

-- at one piece, and then on if it was taken
abbrev pub onward : {M : Type 0} → M → Taken M → (M → Offered M) → Offered M
onward m (took n) next = next n
onward m (stopped level) next = came (Err level) m

-- pieces in order, until one stops
abbrev pub in_order : (sink : Sink) → sink.State → List (List ℕ) → Offered sink.State
in_order sink m [] = came (Ok tt) m
in_order sink m (piece ∷ pieces) = onward m (sink.take m piece) (λ n. in_order sink n pieces)

abbrev pub joined : List (List ℕ) → List ℕ
joined [] = []
joined (piece ∷ pieces) = piece ++ joined pieces
