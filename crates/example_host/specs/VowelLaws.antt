-- The sink keeps to the laws of sinks. A ghost member of the code cites this, and so it stands in specs/.
use Rattle.std.proofs.Common.{◌≡◌, ℕ, suc, ◌+◌, ◌-◌, ◌^◌, Bool, true, false, cond, List, [], ◌∷◌, ◌++◌, sym, refl, ap, ◌∙◌, suc-add, zero-add, add-zero, add_assoc, lit≤}
use Rattle.meaning.specs.Hosts.{Lawful, took}
use Rattle.meaning.specs.Sinks.{fits}
use Rattle.meaning.proofs.Gate.{gated_two}
use Rattle.meaning.proofs.SinkLaws.{nothing_fits, was_took, level_of_cond}
use Rattle.example_host.specs.Vowels.{a_vowel, vowel_counter, vowels}

one_more : (x : Bool) (m n : ℕ) → cond x (suc (m + n)) (m + n) ≡ cond x (suc m) m + n
one_more true m n = sym (suc-add m n)
one_more false m n = refl

-- a joined text has the vowels of its two parts
pub vowels_join : (a b : List ℕ) → vowels (a ++ b) ≡ vowels a + vowels b
vowels_join [] b = sym (zero-add (vowels b))
vowels_join (x ∷ a) b = ap (λ (n : ℕ). cond (a_vowel x) (suc n) n) (vowels_join a b) ∙ one_more (a_vowel x) (vowels a) (vowels b)

counted_twice : (n : ℕ) (a b : List ℕ) → n + vowels (a ++ b) ≡ (n + vowels a) + vowels b
counted_twice n a b = ap (λ (k : ℕ). n + k) (vowels_join a b) ∙ sym (add_assoc n (vowels a) (vowels b))

pub vowel_counter_is_lawful : Lawful vowel_counter
vowel_counter_is_lawful = record {
  empty_piece = λ m. nothing_fits (2 ^ 32 - 1) m (took (m + 0)) 0 ∙ ap took (add-zero m);
  two_pieces = gated_two (λ m. m) vowels (2 ^ 32 - 1) 0 (λ m a. took (m + vowels a)) vowels_join
      (λ m n a e. sym (was_took e))
      (λ m a b. counted_twice m a b);
  highest_fits = lit≤ tt;
  levels = λ m a. level_of_cond (fits (2 ^ 32 - 1) m (vowels a)) (took (m + vowels a)) 0 0 tt (lit≤ tt);
}
