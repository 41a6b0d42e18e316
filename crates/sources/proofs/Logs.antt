-- The records of a log.
use Rattle.std.proofs.Common.{◌≡◌, ℕ, zero, suc, ◌+◌, ◌*◌, ◌/◌, ◌<◌, ◌≤◌, List, [], ◌∷◌, length, get_or, take, drop, sym, refl, ap, ◌∙◌, arith}
use mathlib.Core.Option.{none, some}
use Rattle.std.proofs.lemmas.List.{drop-take}
use Rattle.std.specs.Simd.{first_chunks}
use Rattle.meaning.specs.Bytes.{from_little_endian}
use Rattle.meaning.specs.Parts.{nth, count_items}
use Rattle.meaning.specs.Sources.{pot, pots}
use Rattle.meaning.specs.Value.{item}
use Rattle.store.proofs.Lists.{nth_past}
use Rattle.sources.specs.Pots.{all_pots, pots_in}

-- a number is read of its own bytes alone
front : (k n : ℕ) (s : List ℕ) → k ≤ n → from_little_endian k (take n s) ≡ from_little_endian k s
unfolding from_little_endian
front zero n s h = refl
front (suc k) zero s h = absurd (omega arith)
front (suc k) (suc n) [] h = refl
front (suc k) (suc n) (b ∷ s) h = ap (λ m. b + 256 * m) (front k n s (omega arith))

within_record : (at left k : ℕ) (log : List ℕ) → k ≤ left → from_little_endian k (drop at (take (at + left) log)) ≡ from_little_endian k (drop at log)
within_record at left k log h = ap (from_little_endian k) (drop-take at left log) ∙ front k left (drop at log) h

pot_of_record : (log : List ℕ) → pot (take 12 log) ≡ pot log
pot_of_record log =
    let number = front 2 12 log (omega arith) in
    let depth = within_record 2 10 2 log (omega arith) in
    let lat = within_record 4 8 4 log (omega arith) in
    let lon = within_record 8 4 4 log (omega arith) in
    rw (number, depth, lat, lon)

pub record_there : (rs : List (List ℕ)) (i : ℕ) (bytes : List ℕ) → i < length rs → bytes ≡ get_or rs i bytes → nth (pots_in rs) i ≡ some (pot bytes)
record_there [] i bytes h e = absurd (omega arith)
record_there (b ∷ rs) zero bytes h e = ap (λ x. some (pot x)) (sym e)
record_there (b ∷ rs) (suc i) bytes h e = record_there rs i bytes (omega arith) e

count_pots : (rs : List (List ℕ)) → count_items (pots_in rs) ≡ length rs
count_pots [] = refl
count_pots (b ∷ rs) = ap suc (count_pots rs)

pub record_missing : (rs : List (List ℕ)) (i : ℕ) → length rs ≤ i → nth (pots_in rs) i ≡ none
record_missing rs i h = nth_past (pots_in rs) i (omega (arith, count_pots rs))

pub pots_of : (log : List ℕ) (rs : List (List ℕ)) → rs ≡ first_chunks 12 (length log / 12) log → pots_in rs ≡ all_pots log
pots_of log rs e = ap pots_in e ∙ by (length log / 12) log
  where
    by : (n : ℕ) (log : List ℕ) → pots_in (first_chunks 12 n log) ≡ pots n log
    by zero log = refl
    by (suc n) log = λ j. item (pot_of_record log j) (by n (drop 12 log) j)
