-- The truth of a float, by the number that its 64 bits encode: IEEE 754, binary64.
use Rattle.std.specs.Prelude.{◌≡◌, ℕ, ◌^◌, ◌<◌, Bool, true, false, ◌↔◌, from_bits, Float}
use Rattle.std.specs.Float.{nan, inf, fin, binary64}
use Rattle.meaning.specs.Value.{float}
use Rattle.meaning.specs.Parts.{truth}

-- a finite number is m * 2 ^ e, with a sign, which a zero has too
abbrev pub IsZero : Float → Type 0
IsZero nan = ⊥
IsZero (inf negative) = ⊥
IsZero (fin negative m e) = m ≡ 0

-- A float is false exactly if it is a zero, of either sign. So not-a-number, by any of its patterns, and the infinities are true.
abbrev pub FloatTruth : Type 0
FloatTruth =
    ((bits : ℕ) → bits < 2 ^ 64 → (truth (float bits) ≡ false) ↔ IsZero (from_bits binary64 bits))
    × ((bits : ℕ) → bits < 2 ^ 64 → from_bits binary64 bits ≡ nan → truth (float bits) ≡ true)
    × ((bits : ℕ) → bits < 2 ^ 64 → (negative : Bool) → from_bits binary64 bits ≡ inf negative → truth (float bits) ≡ true)
