-- What the sink does with a piece.
use Rattle.std.specs.Prelude.{ℕ, suc, ◌+◌, ◌-◌, ◌^◌, Bool, cond, ◌||◌, ◌==◌, List, [], ◌∷◌}
use Rattle.meaning.specs.Hosts.{Sink, took, stopped}
use Rattle.meaning.specs.Sinks.{fits}

-- the bytes of a, e, i, o and u
abbrev pub a_vowel : ℕ → Bool
a_vowel b = b == 97 || (b == 101 || (b == 105 || (b == 111 || b == 117)))

abbrev pub vowels : List ℕ → ℕ
vowels [] = 0
vowels (b ∷ bs) = cond (a_vowel b) (suc (vowels bs)) (vowels bs)

-- its state is how many it has counted; it stops where 32 bits would not hold the count
abbrev pub vowel_counter : Sink
vowel_counter = record {
  State = ℕ;
  highest = 0;
  take = λ count piece. cond (fits (2 ^ 32 - 1) count (vowels piece)) (took (count + vowels piece)) (stopped 0);
}
