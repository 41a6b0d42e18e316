-- Tests of text: what the code tests is what the grammar says.
use Rattle.std.proofs.Common.{◌≡◌, ℕ, ◌≤◌, Bool, true, false, ◌&&◌, eqb, leb, List, length, refl, arith, eq-eqb, ne_eqb, leb-false, leb-true}
use Rattle.std.proofs.lemmas.List.{get_or_past}
use Rattle.packing.specs.Rfc3629.{between_characters}

pub not_true : (b : Bool) → (b ≡ true → ⊥) → b ≡ false
not_true b never = elim b as (λ v. (v ≡ true → ⊥) → v ≡ false) [ true ↦ λ n. absurd (n refl) | false ↦ λ n. refl ] never

-- at or after `n` only `n` itself is not above it
only_end : (i n : ℕ) → n ≤ i → (b : Bool) → leb i n ≡ b → eqb i n ≡ (b && true)
only_end i n h true e = let low = leb-true i n e in eq-eqb i n (omega arith)
only_end i n h false e = let high = leb-false i n e in ne_eqb i n (λ same. omega arith)

pub past_end : (text : List ℕ) (place : ℕ) → length text ≤ place → eqb place (length text) ≡ between_characters text place
past_end text place h = rw (get_or_past text place 0 h) (only_end place (length text) h (leb place (length text)) refl)
