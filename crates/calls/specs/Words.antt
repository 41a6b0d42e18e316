-- The words of a job's line: bytes as hexadecimal digits, `-` for none, or text in double quotes.
use Rattle.std.specs.Prelude.{◌≡◌, ℕ, ◌-◌, ◌*◌, ◌+◌, ◌<◌, Bool, cond, ◌&&◌, List, [], ◌∷◌, length, Some, None, Ok, Err, Result, ◌==◌, nat_le}
use Rattle.std.proofs.Math.Option.{Option, none, some}
use Rattle.std.specs.Borrow.{Bor}
use Rattle.std.specs.declared.option.Option as code
use Rattle.meaning.specs.Or.{Or, fails, gives}
use Rattle.meaning.specs.Step.{Step}
use Rattle.calls.specs.declared.word.BadLine.{BadLine}
use Rattle.calls.specs.declared.word.BadLine.TheVariants.{MissingWord, NotHex, OddDigits, BadEscape, OpenQuote}
use Rattle.calls.specs.declared.word.Failure.{Failure}
use Rattle.calls.specs.declared.word.Failure.TheVariants.{Memory, Bad}

-- reads off the front of what is left of a line
abbrev pub Reads : Type 0 → Type 0
Reads = Step BadLine (List ℕ)

abbrev pub between : (low high : ℕ) → ℕ → Bool
between low high c = nat_le low c && nat_le c high

-- the number of a hexadecimal digit
abbrev pub digit : ℕ → Option ℕ
digit c =
    cond (between 48 57 c) (some (c - 48))
    (cond (between 97 102 c) (some (c - 87))
    (cond (between 65 70 c) (some (c - 55))
    none))

-- a byte before the others
abbrev pub before : ℕ → Or BadLine (List ℕ × List ℕ) → Or BadLine (List ℕ × List ℕ)
before b (gives (bytes, rest)) = gives (b ∷ bytes, rest)
before b (fails bad) = fails bad

-- two digits for each byte, up to a space or the end
unfoldable mutual
  pub hex : Reads (List ℕ)
  hex [] = gives ([], [])
  hex (c ∷ s) = cond (c == 32) (gives ([], c ∷ s)) (elim (digit c) [ some high ↦ second_digit high s | none ↦ fails NotHex ])

  pub second_digit : (high : ℕ) → Reads (List ℕ)
  second_digit high [] = fails OddDigits
  second_digit high (c ∷ s) = cond (c == 32) (fails OddDigits) (elim (digit c) [ some low ↦ before (high * 16 + low) (hex s) | none ↦ fails NotHex ])

-- what stands for the byte behind a backslash
abbrev pub unescaped : ℕ → Option ℕ
unescaped c =
    cond (c == 34) (some 34)
    (cond (c == 92) (some 92)
    (cond (c == 110) (some 10)
    (cond (c == 116) (some 9)
    none)))

abbrev pub chosen : {A : Type 0} → Option ℕ → (ℕ → A) → A → A
chosen (some n) then otherwise = then n
chosen none then otherwise = otherwise

-- text up to its closing quote
unfoldable mutual
  pub unquote : Reads (List ℕ)
  unquote [] = fails OpenQuote
  unquote (c ∷ s) = cond (c == 34) (gives ([], s)) (cond (c == 92) (behind_backslash s) (before c (unquote s)))

  pub behind_backslash : Reads (List ℕ)
  behind_backslash [] = fails OpenQuote
  behind_backslash (c ∷ s) = chosen (unescaped c) (λ b. before b (unquote s)) (fails BadEscape)

unfoldable pub word : Reads (List ℕ)
word [] = fails MissingWord
word (c ∷ s) = cond (c == 32) (fails MissingWord) (cond (c == 45) (gives ([], s)) (cond (c == 34) (unquote s) (hex (c ∷ s))))

-- the next digit of a word, by what it means as the first of a byte and as the second
abbrev pub NextDigit : (left : List ℕ) → Result (code.Option (ℕ × Bor (List ℕ))) BadLine → Type 0
NextDigit left (Ok None) = (hex left ≡ gives ([], left)) × ((high : ℕ) → second_digit high left ≡ fails OddDigits)
NextDigit left (Ok (Some next)) =
    (hex left ≡ second_digit next.0 next.1.now)
    × ((high : ℕ) → second_digit high left ≡ before (high * 16 + next.0) (hex next.1.now))
    × (next.0 < 16)
    × (length next.1.now < length left)
NextDigit left (Err bad) = (hex left ≡ fails bad) × ((high : ℕ) → second_digit high left ≡ fails bad)

-- the next byte of a text, if it is not at its closing quote, and what is behind
abbrev pub after_quoted : code.Option ℕ → (rest : List ℕ) → Or BadLine (List ℕ × List ℕ)
after_quoted None rest = gives ([], rest)
after_quoted (Some b) rest = before b (unquote rest)

abbrev pub NextQuoted : (left : List ℕ) → Result (code.Option ℕ × Bor (List ℕ)) BadLine → Type 0
NextQuoted left (Ok next) = (unquote left ≡ after_quoted next.0 next.1.now) × (length next.1.now < length left)
NextQuoted left (Err bad) = unquote left ≡ fails bad

-- what code reads is what is read off the bytes that are left; nothing is said where there was no memory
abbrev pub Told : {A X : Type 0} → (X → A) → (left : List ℕ) → Reads A → Result (X × Bor (List ℕ)) Failure → Type 0
Told means left m (Ok r) = m left ≡ gives (means r.0, r.1.now)
Told means left m (Err Memory) = Unit {0}
Told means left m (Err (Bad b)) = m left ≡ fails b
