-- Numbers of a line, read byte by byte.
use Rattle.std.proofs.Common.{◌≡◌, ℕ, ◌+◌, ◌-◌, ◌*◌, ◌<◌, ◌≤◌, Bor, List, [], ◌∷◌, length, get_or, take, drop, None, Ok, Err, Result, refl, ◌∙◌, arith, ne_eqb}
use mathlib.Core.Option.{none, some}
use Rattle.meaning.specs.Or.{fails}
use Rattle.calls.specs.declared.word.BadLine.{BadLine}
use Rattle.calls.specs.declared.word.BadLine.TheVariants.{MissingWord, NotDecimal}
use Rattle.calls.specs.Numbers.{Counts, NextDecimal, decimal_digit, digits, if_small, number}
use Rattle.calls.proofs.Wording.{behind_first, ok_or_err, shorter}

pub decimal_none : (line : List ℕ) → length line < 1 → NextDecimal line (Ok None)
unfolding digits
decimal_none [] h = λ n. refl
decimal_none (c ∷ s) h = absurd (omega arith)

pub decimal_space : (line : List ℕ) → 1 ≤ length line → get_or line 0 0 ≡ 32 → NextDecimal line (Ok None)
unfolding digits
decimal_space [] h is = absurd (omega arith)
decimal_space (c ∷ s) h is = λ n. rw is

pub decimal_bad : (line : List ℕ) → 1 ≤ length line → (get_or line 0 0 ≡ 32 → ⊥) → decimal_digit (get_or line 0 0) ≡ none → NextDecimal line (Err NotDecimal)
unfolding digits
decimal_bad [] h other bad = absurd (omega arith)
decimal_bad (c ∷ s) h other bad = λ n. rw (ne_eqb c 32 other, bad)

pub decimal_good : (line : List ℕ) (d : ℕ) → 1 ≤ length line → (get_or line 0 0 ≡ 32 → ⊥) → decimal_digit (get_or line 0 0) ≡ some d →
    let rest = take (length line - 1) (drop 1 line) in
    (n : ℕ) → digits n line ≡ if_small (n * 10 + d) (digits (n * 10 + d) rest)
unfolding digits
decimal_good [] d h other good = absurd (omega arith)
decimal_good (c ∷ s) d h other good = λ n. rw (behind_first c s, ne_eqb c 32 other, good)

pub number_none : (line : List ℕ) → length line < 1 → number line ≡ fails MissingWord
unfolding number
number_none [] h = refl
number_none (c ∷ s) h = absurd (omega arith)

pub number_space : (line : List ℕ) → 1 ≤ length line → get_or line 0 0 ≡ 32 → number line ≡ fails MissingWord
unfolding number
number_space [] h is = absurd (omega arith)
number_space (c ∷ s) h is = rw is

pub number_digits : (line : List ℕ) → 1 ≤ length line → (get_or line 0 0 ≡ 32 → ⊥) → number line ≡ digits 0 line
unfolding number
number_digits [] h other = absurd (omega arith)
number_digits (c ∷ s) h other = rw (ne_eqb c 32 other)

pub counts_as : (line : List ℕ) (r : Result (ℕ × Bor (List ℕ)) BadLine) → number line ≡ digits 0 line → Counts line (digits 0) r → Counts line number r
counts_as line (Ok r) same told = same ∙ told
counts_as line (Err bad) same told = same ∙ told

-- WHAT A READER NEEDS OF THESE

pub ruleset decimals = (decimal_none, decimal_space, decimal_bad, ok_or_err, shorter)

pub ruleset numbers = (number_none, number_space, number_digits, counts_as)
