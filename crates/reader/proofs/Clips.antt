-- The part of a source under a span.
use Rattle.std.proofs.Common.{◌≡◌, ℕ, ◌-◌, ◌<◌, ◌≤◌, min, max, List, [], length, take, drop, sym, ap, ◌∙◌, ⊎_elim, arith, length-drop}
use lib.Seq.{take-nil}
use Rattle.std.proofs.lemmas.List.{drop_all, take_all}
use Rattle.std.proofs.lemmas.Bool.{cases_lt}

-- as much of a list, counted in two ways
same_part : (m n : ℕ) (xs : List ℕ) → min m (length xs) ≡ min n (length xs) → take m xs ≡ take n xs
same_part m n xs e = ⊎_elim few all (cases_lt m (length xs))
  where
    few : m < length xs → take m xs ≡ take n xs
    few h = ap (λ (k : ℕ). take k xs) (omega arith)

    all : length xs ≤ m → take m xs ≡ take n xs
    all h = take_all m xs h ∙ sym (take_all n xs (omega arith))

-- what a slice holds that is cut at the source's end
pub cut : (source : List ℕ) (a b start stop : ℕ) → start ≡ min (length source) a → stop ≡ max (min (length source) b) start → take (stop - start) (drop start source) ≡ take (b - a) (drop a source)
cut source a b start stop e f = ⊎_elim past within (cases_lt (length source) a)
  where
    nothing : (n k : ℕ) → length source ≤ n → take k (drop n source) ≡ []
    nothing n k h = ap (take k) (drop_all n source h) ∙ take-nil k

    past : length source < a → take (stop - start) (drop start source) ≡ take (b - a) (drop a source)
    past h = nothing start (stop - start) (omega arith) ∙ sym (nothing a (b - a) (omega arith))

    within : a ≤ length source → take (stop - start) (drop start source) ≡ take (b - a) (drop a source)
    within h =
        let at : start ≡ a = omega arith in
        rw at (same_part (stop - a) (b - a) (drop a source) (omega (arith, length-drop a source)))
