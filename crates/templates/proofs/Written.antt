-- Memory after a piece was written into it.
use Rattle.std.proofs.Common.{◌≡◌, ℕ, ◌+◌, ◌-◌, ◌≤◌, List, ◌++◌, length, take, drop, sym, refl, ap, ◌∙◌, ap₂, append_assoc, arith, length-append, length-drop, length-take}
use borrow.Rule.Slice.PartMut.{put_mid}
use Rattle.std.proofs.Math.Seq.{take-append_seam}
use Rattle.std.proofs.lemmas.Grind.{common_steps}
use Rattle.std.proofs.lemmas.List.{take-append-le, take-take, drop-append-le, drop_at, drop-drop, drop-take, length-take-le, take-append-drop}
use Rattle.templates.specs.Writing.{written}

module _ {A : Type 0} where
  pub length_written : (m : List A) (at : ℕ) (p : List A) → at + length p ≤ length m → length (written m at p) ≡ length m
  length_written m at p h = simp (length-append, length-take, length-drop) (omega arith)

  -- what a write to the part from `at` leaves
  pub written_part : (xs ys m p : List A) (at : ℕ) → xs ≡ m → ys ≡ p → put_mid at (at + length p - at) xs ys ≡ written m at p
  written_part xs ys m p at e f = grind (arith, common_steps)

  -- the same of a write to the front of a longer part
  pub written_front : (m p q : List A) (at size : ℕ) → length p ≤ size → q ≡ p ++ drop (length p) (take size (drop at m)) → put_mid at size m q ≡ written m at p
  written_front m p q at size h e =
      let rest : size ≡ length p + (size - length p) = omega arith in
      let cut : drop (length p) (take size (drop at m)) ≡ take (size - length p) (drop (at + length p) m) =
      ap (λ k. drop (length p) (take k (drop at m))) rest ∙ drop-take (length p) (size - length p) (drop at m) ∙ ap (take (size - length p)) (drop-drop (length p) at m) in
      let behind : drop size (drop at m) ≡ drop (size - length p) (drop (at + length p) m) =
      ap (λ k. drop k (drop at m)) rest ∙ sym (drop-drop (size - length p) (length p) (drop at m)) ∙ ap (drop (size - length p)) (drop-drop (length p) at m) in
      ap₂ (λ (x y : List A). take at m ++ (x ++ y)) (e ∙ ap (λ x. p ++ x) cut) behind
      ∙ ap (λ x. take at m ++ x) (append_assoc p _ _ ∙ ap (λ x. p ++ x) (take-append-drop (size - length p) (drop (at + length p) m)))

  -- memory that is lent, of whose part from `at` on the front was written
  pub written_lent : (lent m p q : List A) (at size n : ℕ) → lent ≡ m → n ≡ length p → n ≤ size → q ≡ p ++ drop n (take size (drop at lent)) → put_mid at size lent q ≡ written m at p
  written_lent lent m p q at size n same counts fits e =
      written_front lent p q at size (omega arith) (e ∙ ap (λ k. p ++ drop k (take size (drop at lent))) counts)
      ∙ ap (λ (xs : List A). written xs at p) same

  -- reading before, at and behind the piece
  pub read_before : (m p : List A) (at a k : ℕ) → at ≤ length m → a + k ≤ at → take k (drop a (written m at p)) ≡ take k (drop a m)
  read_before m p at a k room h =
      let size = length-take-le at m room in
      let front = drop-append-le a (take at m) (p ++ drop (at + length p) m) (omega (arith, size)) in
      let cut = drop-take a (at - a) m in
      grind (arith, common_steps, take-append-le, take-take, length-drop)

  pub read_behind : (m p : List A) (at a : ℕ) → at ≤ length m → at + length p ≤ a → drop a (written m at p) ≡ drop a m
  read_behind m p at a room h =
      let size = length-take-le at m room in
      let past = drop-drop (a - at) at (written m at p) in
      let here = drop_at (take at m) (p ++ drop (at + length p) m) at size in
      let behind = drop-drop (a - at - length p) (length p) (p ++ drop (at + length p) m) in
      let rest = drop_at p (drop (at + length p) m) (length p) refl in
      let last = drop-drop (a - at - length p) (at + length p) m in
      grind arith

  pub read_there : (m p : List A) (at : ℕ) → at ≤ length m → take (length p) (drop at (written m at p)) ≡ p
  read_there m p at room =
      let size = length-take-le at m room in
      ap (take (length p)) (drop_at (take at m) (p ++ drop (at + length p) m) at size) ∙ take-append_seam p (drop (at + length p) m)
