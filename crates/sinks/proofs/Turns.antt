-- Pieces in order: one turn, and that they come to what one piece comes to.
use Rattle.std.proofs.Common.{◌≡◌, ℕ, ◌+◌, ◌<◌, List, [], ◌∷◌, ◌++◌, map, length, get_or, drop, Ok, Err, Result, sym, refl, ap, ◌∙◌, subst, Bor}
use Rattle.std.proofs.lemmas.List.{at_drop_more}
use Rattle.meaning.specs.Hosts.{Sink, Lawful, Taken, took, stopped, Alike, after}
use Rattle.sinks.specs.Offered.{Offered, answering, came, as_one, onward, in_order, joined}

module _ {M : Type 0} (m n : M) where
  goes_on : (t : Taken M) (next : M → Offered M) → came (Ok tt) n ≡ answering m t → onward m t next ≡ next n
  goes_on (took k) next e = ap (λ (o : Offered M). next o.left) (sym e)
  goes_on (stopped level) next e =
      let f : ◌≡◌ {A = Result (Unit {0}) ℕ} (Ok tt) (Err level) = ap (λ (o : Offered M). o.answer) e in cc

  halts : (t : Taken M) (next : M → Offered M) (level : ℕ) → came (Err level) n ≡ answering m t → onward m t next ≡ came (Err level) n
  halts (took k) next level e =
      let f : ◌≡◌ {A = Result (Unit {0}) ℕ} (Err level) (Ok tt) = ap (λ (o : Offered M). o.answer) e in cc
  halts (stopped l) next level e = sym e

-- a turn at the piece i, which leaves n
module _ (sink : Sink) (m n : sink.State) (pieces : List (Bor (List ℕ))) (i : ℕ) (d : Bor (List ℕ)) (inside : i < length pieces) where
  pub turn_taken : came (Ok tt) n ≡ answering m (sink.take m (get_or pieces i d).now) →
      in_order sink m (map (λ x. x.now) (drop i pieces)) ≡ in_order sink n (map (λ x. x.now) (drop (i + 1) pieces))
  turn_taken e =
      at_drop_more (λ ps. in_order sink m (map (λ x. x.now) ps)) pieces i d inside
      ∙ goes_on m n (sink.take m (get_or pieces i d).now) (λ k. in_order sink k (map (λ x. x.now) (drop (i + 1) pieces))) e

  pub turn_stopped : (level : ℕ) → came (Err level) n ≡ answering m (sink.take m (get_or pieces i d).now) →
      in_order sink m (map (λ x. x.now) (drop i pieces)) ≡ came (Err level) n
  turn_stopped level e =
      at_drop_more (λ ps. in_order sink m (map (λ x. x.now) ps)) pieces i d inside
      ∙ halts m n (sink.take m (get_or pieces i d).now) (λ k. in_order sink k (map (λ x. x.now) (drop (i + 1) pieces))) level e

module _ {M : Type 0} where
  alike_trans : (s t u : Taken M) → Alike s t → Alike t u → Alike s u
  alike_trans (took k) (took m) (took n) h g = h ∙ g
  alike_trans (took k) (took m) (stopped l) h g = g
  alike_trans (took k) (stopped l) u h g = absurd h
  alike_trans (stopped l) (took m) u h g = absurd h
  alike_trans (stopped l) (stopped k) (took n) h g = g
  alike_trans (stopped l) (stopped k) (stopped j) h g = tt

  alike_same : (t : Taken M) (m : M) → t ≡ took m → Alike t (took m)
  alike_same t m e = subst (λ (u : Taken M). Alike u (took m)) (sym e) refl

module _ (sink : Sink) (lawful : Lawful sink) where
  -- by what the sink does at the first piece
  at_first : (pieces : List (List ℕ)) (m : sink.State) (whole first : Taken sink.State) →
      ((n : sink.State) → Alike (sink.take n (joined pieces)) (as_one (in_order sink n pieces))) →
      Alike whole (after first (λ n. sink.take n (joined pieces))) →
      Alike whole (as_one (onward m first (λ n. in_order sink n pieces)))
  at_first pieces m whole (took n) rest h = alike_trans whole (sink.take n (joined pieces)) _ h (rest n)
  at_first pieces m whole (stopped level) rest h = h

  whole_is_pieces : (pieces : List (List ℕ)) (m : sink.State) → Alike (sink.take m (joined pieces)) (as_one (in_order sink m pieces))
  whole_is_pieces [] m = alike_same (sink.take m []) m (lawful.empty_piece m)
  whole_is_pieces (piece ∷ pieces) m =
      at_first pieces m (sink.take m (piece ++ joined pieces)) (sink.take m piece) (whole_is_pieces pieces) (lawful.two_pieces m piece (joined pieces))

  -- what `offer_all` promises, from what the pieces come to
  pub told : (m n : sink.State) (pieces : List (List ℕ)) (r : Result (Unit {0}) ℕ) → in_order sink m pieces ≡ came r n →
      record { order : came r n ≡ in_order sink m pieces; whole : Alike (sink.take m (joined pieces)) (as_one (came r n)) }
  told m n pieces r e = record {
    order = sym e;
    whole = subst (λ (w : Offered sink.State). Alike (sink.take m (joined pieces)) (as_one w)) e (whole_is_pieces pieces m);
  }

  pub told_stop : (m n : sink.State) (pieces : List (List ℕ)) (r : Result (Unit {0}) ℕ) (level stop : ℕ) →
      in_order sink m pieces ≡ came (Err level) n → r ≡ Err stop → stop ≡ level →
      record { order : came r n ≡ in_order sink m pieces; whole : Alike (sink.take m (joined pieces)) (as_one (came r n)) }
  told_stop m n pieces r level stop e is same = told m n pieces r (e ∙ ap (λ (k : ℕ). came (Err k) n) (sym same) ∙ ap (λ (a : Result (Unit {0}) ℕ). came a n) (sym is))
