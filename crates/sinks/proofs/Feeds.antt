-- A count of line feeds: the number of the bytes that are one, and a sum that is counted up from byte to byte and does
-- not wrap.
use Rattle.std.proofs.Common.{◌≡◌, ◌+◌, ◌<◌, ◌≤◌, ℕ, suc, Bool, true, false, cond, List, [], ◌∷◌, length, refl, ap, ◌∙◌, sym, arith}
use Rattle.std.specs.Prelude.{◌==◌, ◌%◌, ◌^◌}
use Rattle.std.specs.Int.{from_bool}
use Rattle.std.specs.List.{count_by, fold}
use Rattle.std.proofs.lemmas.List.Recursion.{is_count_by}
use Rattle.std.proofs.Math.Nat.{mod-eq_of_lt}
use Rattle.meaning.specs.Sinks.{line_feeds}

pub feeds : (bytes : List ℕ) → line_feeds bytes ≡ count_by (λ b. b == 10) bytes
feeds bytes = is_count_by line_feeds (λ b. b == 10) refl (λ b bs. ap (λ n. cond (b == 10) n (line_feeds bs)) (omega arith)) bytes

abbrev pub one_more : ℕ → ℕ → ℕ
one_more n b = (n + from_bool (b == 10)) % 2 ^ 64

-- one byte more, which is a line feed or not
by_byte : (is : Bool) (n rest lines : ℕ) → n + suc rest < 2 ^ 64 → ((n + from_bool is) % 2 ^ 64 ≡ n + from_bool is) × (n + from_bool is + rest < 2 ^ 64) × (n + from_bool is + lines ≡ n + cond is (suc lines) lines)
by_byte true n rest lines fits = (mod-eq_of_lt (omega arith), omega arith, omega arith)
by_byte false n rest lines fits = (mod-eq_of_lt (omega arith), omega arith, omega arith)

pub counted : (n : ℕ) (bytes : List ℕ) → n + length bytes < 2 ^ 64 → fold one_more n bytes ≡ n + line_feeds bytes
counted n [] fits = omega arith
counted n (b ∷ bs) fits =
    let s = by_byte (b == 10) n (length bs) (line_feeds bs) fits in
    ap (λ k. fold one_more k bs) s.0 ∙ counted (n + from_bool (b == 10)) bs s.1 ∙ s.2

at_most : (is : Bool) (lines rest : ℕ) → lines ≤ rest → cond is (suc lines) lines ≤ suc rest
at_most true lines rest few = omega arith
at_most false lines rest few = omega arith

pub few_feeds : (bytes : List ℕ) → line_feeds bytes ≤ length bytes
few_feeds [] = omega arith
few_feeds (b ∷ bs) = at_most (b == 10) (line_feeds bs) (length bs) (few_feeds bs)
