-- Numbers in a job's line: decimal digits, of at most 64 bits.
use Rattle.std.specs.Prelude.{◌≡◌, ℕ, ◌+◌, ◌-◌, ◌*◌, ◌^◌, ◌<◌, true, false, cond, List, [], ◌∷◌, length, Some, None, Ok, Err, Result, ◌==◌, nat_lt}
use Rattle.std.proofs.Math.Option.{Option, none, some}
use Rattle.std.specs.Borrow.{Bor}
use Rattle.std.specs.declared.option.Option as code
use Rattle.meaning.specs.Or.{Or, fails, gives}
use Rattle.calls.specs.declared.word.BadLine.{BadLine}
use Rattle.calls.specs.declared.word.BadLine.TheVariants.{MissingWord, NotDecimal, TooLarge}
use Rattle.calls.specs.Words.{Reads, between}

-- the number of a decimal digit
abbrev pub decimal_digit : ℕ → Option ℕ
decimal_digit c = cond (between 48 57 c) (some (c - 48)) none

-- what is read on, if the number still has 64 bits
abbrev pub if_small : (n : ℕ) → Or BadLine (ℕ × List ℕ) → Or BadLine (ℕ × List ℕ)
if_small n o = cond (nat_lt n (2 ^ 64)) o (fails TooLarge)

-- the digits behind those that make `n`, up to a space or the end
unfoldable pub digits : (n : ℕ) → Reads ℕ
digits n [] = gives (n, [])
digits n (c ∷ s) =
    cond (c == 32) (gives (n, c ∷ s)) (elim (decimal_digit c) [ some d ↦ if_small (n * 10 + d) (digits (n * 10 + d) s) | none ↦ fails NotDecimal ])

unfoldable pub number : Reads ℕ
number [] = fails MissingWord
number (c ∷ s) = cond (c == 32) (fails MissingWord) (digits 0 (c ∷ s))

-- the next digit of a number, by what it means behind those that make `n`; and what is behind it
abbrev pub NextDecimal : (left : List ℕ) → Result (code.Option (ℕ × Bor (List ℕ))) BadLine → Type 0
NextDecimal left (Ok None) = (n : ℕ) → digits n left ≡ gives (n, left)
NextDecimal left (Ok (Some next)) =
    ((n : ℕ) → digits n left ≡ if_small (n * 10 + next.0) (digits (n * 10 + next.0) next.1.now)) × (length next.1.now < length left)
NextDecimal left (Err bad) = (n : ℕ) → digits n left ≡ fails bad

-- a number with one digit more
abbrev pub Appended : (n d : ℕ) → Result ℕ BadLine → Type 0
Appended n d (Ok m) = (m ≡ n * 10 + d) × (nat_lt (n * 10 + d) (2 ^ 64) ≡ true)
Appended n d (Err bad) = (bad ≡ TooLarge) × (nat_lt (n * 10 + d) (2 ^ 64) ≡ false)

-- what is read off the bytes that are left
abbrev pub Counts : (left : List ℕ) → Reads ℕ → Result (ℕ × Bor (List ℕ)) BadLine → Type 0
Counts left m (Ok r) = m left ≡ gives (r.0, r.1.now)
Counts left m (Err bad) = m left ≡ fails bad
