-- A float is false exactly if its bits encode a zero: the bits of a number are what the number is written as, and both zeros are written as their sign alone.
use Rattle.std.proofs.Common.{◌≡◌, ℕ, ◌^◌, Bool, true, false, cond, not, ◌||◌, T, eqb, ◌⊎◌, ℤ, sym, refl, ap, ◌∙◌, subst, inl, inr, ⊎_elim, zero-mul, eqb-true}
use native.Mathlib.Nat.{zero-div}
use borrow.Author.Tests.{not-false}
use lib.Ieee.{Float, nan, inf, fin, binary64, is_nan, of_bits, to_bits}
use lib.Ieee.Bits.{to_bits-of_bits}
use Rattle.meaning.specs.Value.{float}
use Rattle.meaning.specs.Parts.{truth}
use Rattle.meaning.specs.Ieee754.{IsZero, FloatTruth}

-- FROM THE NUMBER TO ITS BITS

sign_alone_is_false : (negative : Bool) → truth (float (cond negative (2 ^ 63) 0)) ≡ false
sign_alone_is_false true = refl
sign_alone_is_false false = refl

zero_is_written : (negative : Bool) (e : ℤ) → to_bits binary64 (fin negative 0 e) ≡ cond negative (2 ^ 63) 0
unfolding to_bits
zero_is_written true e = simp (zero-mul, zero-div)
zero_is_written false e = simp (zero-mul, zero-div)

zero_is_false : (v : Float) (bits : ℕ) → (T (not (is_nan v)) → to_bits binary64 v ≡ bits) → IsZero v → truth (float bits) ≡ false
unfolding is_nan
zero_is_false nan bits written zero = absurd zero
zero_is_false (inf negative) bits written zero = absurd zero
zero_is_false (fin negative m e) bits written zero =
    let same : cond negative (2 ^ 63) 0 ≡ bits =
    sym (zero_is_written negative e) ∙ ap (λ (n : ℕ). to_bits binary64 (fin negative n e)) (sym zero) ∙ written tt in
    subst (λ (n : ℕ). truth (float n) ≡ false) same (sign_alone_is_false negative)

-- FROM THE BITS TO THEIR NUMBER

all_clear_is_zero : IsZero (of_bits binary64 0)
unfolding of_bits
all_clear_is_zero = refl

sign_alone_is_zero : IsZero (of_bits binary64 (2 ^ 63))
unfolding of_bits
sign_alone_is_zero = refl

either : (a b : Bool) → (a || b) ≡ true → (a ≡ true) ⊎ (b ≡ true)
either true b e = inl refl
either false b e = inr e

false_is_zero : (bits : ℕ) → truth (float bits) ≡ false → IsZero (of_bits binary64 bits)
false_is_zero bits e =
    let Zero : ℕ → Type 0 = λ n. IsZero (of_bits binary64 n) in
    ⊎_elim
    (λ none. subst Zero (sym (eqb-true bits 0 none)) all_clear_is_zero)
    (λ sign. subst Zero (sym (eqb-true bits (2 ^ 63) sign)) sign_alone_is_zero)
    (either (eqb bits 0) (eqb bits (2 ^ 63)) (not-false (eqb bits 0 || eqb bits (2 ^ 63)) e))

-- TOGETHER

other_is_true : (bits : ℕ) (v : Float) → of_bits binary64 bits ≡ v → (IsZero v → ⊥) → truth (float bits) ≡ true
other_is_true bits v e other = by_truth (truth (float bits)) refl
  where
    by_truth : (t : Bool) → truth (float bits) ≡ t → truth (float bits) ≡ true
    by_truth true is = is
    by_truth false is = absurd (other (subst IsZero e (false_is_zero bits is)))

pub float_truth : FloatTruth
float_truth = (
  λ bits h. (false_is_zero bits, zero_is_false (of_bits binary64 bits) bits (to_bits-of_bits binary64 bits h)),
  λ bits h e. other_is_true bits nan e (λ zero. zero),
  λ bits h negative e. other_is_true bits (inf negative) e (λ zero. zero),
)
