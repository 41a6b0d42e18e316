-- A count of vowels, as the number of the bytes that are one.
use Rattle.std.proofs.Common.{◌≡◌, ℕ, cond, List, refl, ap, arith}
use Rattle.std.specs.List.{count_by}
use Rattle.std.proofs.lemmas.List.Recursion.{is_count_by}
use Rattle.example_host.specs.Vowels.{a_vowel, vowels}

pub vowels_are : (bytes : List ℕ) → vowels bytes ≡ count_by a_vowel bytes
vowels_are bytes = is_count_by vowels a_vowel refl (λ b bs. ap (λ n. cond (a_vowel b) n (vowels bs)) (omega arith)) bytes
