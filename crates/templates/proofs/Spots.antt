-- Entries that lie apart, and the table after one was set or put last.
use Rattle.std.proofs.Common.{◌≡◌, ℕ, suc, ◌+◌, ◌-◌, ◌<◌, ◌≤◌, Bool, true, false, cond, ◌⊎◌, inl, inr, max, List, [], ◌∷◌, ◌++◌, length, get_or, take, drop, set, sym, refl, ap, ◌∙◌, ap₂, arith, drop-cons}
use Rattle.std.specs.Prelude.{◌==◌}
use lib.Seq.{take-append-add}
use Rattle.std.proofs.lemmas.Grind.{common_steps}
use Rattle.std.proofs.lemmas.List.{take-append-drop, take-take, set_split, length-take-le}
use Rattle.std.proofs.lemmas.Slice.{between_is}
use Rattle.std.proofs.lemmas.Bool.{cases_order, eqb-true, eq-eqb}
use Rattle.templates.specs.Entries.{lies, times, Apart}
use Rattle.templates.specs.declared.entry.Entry.{Entry}

pub times_append : (p : ℕ) (xs ys : List Entry) → times p (xs ++ ys) ≡ times p xs + times p ys
times_append p [] ys = omega arith
times_append p (a ∷ xs) ys = omega (arith, times_append p xs ys)

-- a list around one of its elements
pub around : (es : List Entry) (at : ℕ) (e : Entry) → at < length es → e ≡ get_or es at e → es ≡ take at es ++ (e ∷ drop (suc at) es)
around es at e h is = grind (arith, common_steps, drop-cons)

module _ (es : List Entry) (at : ℕ) (e : Entry) (h : at < length es) (is : e ≡ get_or es at e) where
  times_around : (p : ℕ) → times p es ≡ times p (take at es) + (lies p e + times p (drop (suc at) es))
  times_around p = ap (times p) (around es at e h is) ∙ times_append p (take at es) (e ∷ drop (suc at) es)

  -- no other entry lies where this one does
  pub record Alone : Type 0 where
    pub before : times e.place (take at es) ≡ 0
    pub behind : times e.place (drop (suc at) es) ≡ 0

  pub alone : Apart es → Alone
  alone apart =
      let here : lies e.place e ≡ 1 = rw (eq-eqb e.place e.place refl) in
      let counts = times_around e.place in
      let most = apart e.place in
      record { before = omega arith; behind = omega arith }

  -- an entry that is replaced by one at the same place
  pub apart_set : (new : Entry) → new.place ≡ e.place → Apart es → Apart (set es at new)
  apart_set new same apart p =
      let here : lies p new ≡ lies p e = rw same in
      let after = ap (times p) (set_split es at new h) ∙ times_append p (take at es) (new ∷ drop (suc at) es) in
      omega (arith, here, after, times_around p, apart p)

pub times_take : (p n : ℕ) (es : List Entry) → times p (take n es) ≤ times p es
times_take p n es = omega (arith, ap (times p) (sym (take-append-drop n es)), times_append p (take n es) (drop n es))

-- what is in use after an entry was set, there or xs the next
pub take_placed : (es : List Entry) (at n m : ℕ) (new : Entry) → at < length es → at ≤ n → m ≡ max n (at + 1) → take m (set es at new) ≡ take at (take n es) ++ (new ∷ drop (suc at) (take n es))
take_placed es at n m new h le most =
    let size : length (take at es) ≡ at = length-take-le at es (omega arith) in
    let whole : m ≡ length (take at es) + suc (n - suc at) = omega (arith, size, most) in
    ap₂ take whole (set_split es at new h)
    ∙ take-append-add (take at es) (new ∷ drop (suc at) es) (suc (n - suc at))
    ∙ ap₂ (λ (xs ys : List Entry). xs ++ (new ∷ ys)) (sym (take-take at n es le)) (between_is es (suc at) n)

-- entries of which each lies at the place of its own number
module _ (p : ℕ) where
  lies_elsewhere : (e : Entry) → (e.place ≡ p → ⊥) → lies p e ≡ 0
  lies_elsewhere e other = by (e.place == p) refl
    where
      by : (x : Bool) → e.place == p ≡ x → ◌≡◌ {A = ℕ} (cond x 1 0) 0
      by true same = absurd (other (eqb-true e.place p same))
      by false same = refl

  lies_once : (e : Entry) → lies p e ≤ 1
  lies_once e = by (e.place == p)
    where
      by : (x : Bool) → cond x 1 0 ≤ 1
      by true = omega arith
      by false = omega arith

  pub record AtMost (from : ℕ) (es : List Entry) : Type 0 where
    pub none_below : p < from → times p es ≡ 0
    pub one : times p es ≤ 1

  next_in_order : (from : ℕ) (e : Entry) (es : List Entry) → e.place ≡ from → AtMost (suc from) es → AtMost from (e ∷ es)
  next_in_order from e es here rest = by (cases_order p from)
    where
      by : (p ≡ from) ⊎ ((p < from) ⊎ (from < p)) → AtMost from (e ∷ es)
      by (inl same) = let others = rest.none_below (omega arith) in let once = lies_once e in record { none_below = λ h. omega arith; one = omega arith }
      by (inr (inl below)) = let others = rest.none_below (omega arith) in let elsewhere = lies_elsewhere e (λ x. omega arith) in record { none_below = λ h. omega arith; one = omega arith }
      by (inr (inr above)) = let most = rest.one in let elsewhere = lies_elsewhere e (λ x. omega arith) in record { none_below = λ h. omega arith; one = omega arith }

  in_order : (es : List Entry) (from : ℕ) → ((k : ℕ) (d : Entry) → k < length es → (get_or es k d).place ≡ from + k) → AtMost from es
  in_order [] from own = record { none_below = λ h. refl; one = omega arith }
  in_order (e ∷ es) from own =
      next_in_order from e es (omega (arith, own 0 e (omega arith)))
      (in_order es (suc from) (λ k d h. omega (arith, own (suc k) d (omega arith))))

pub in_order_apart : (es : List Entry) → ((k : ℕ) (d : Entry) → k < length es → (get_or es k d).place ≡ k) → Apart es
in_order_apart es own p = (in_order p es 0 (λ k d h. omega (arith, own k d h))).one
