-- The newest values as arguments, and those that are left under them.
use Rattle.std.proofs.Common.{◌≡◌, ℕ, zero, suc, ◌<◌, ◌≤◌, List, [], ◌∷◌, ◌++◌, reverse, length, take, drop, refl, sym, ap, ◌∙◌, subst, append_assoc, arith}
use Rattle.std.proofs.lemmas.List.{append-nil, map-append, reverse-append}
use Rattle.machine.specs.Machine.{Held, Next, stuck, take_off}
use Rattle.store.specs.declared.memory.Store.{Store}
use Rattle.hosts.specs.Answers.{AllKnown, argument_in, arguments_in}
use Rattle.hosts.specs.declared.answer.Argument.{Argument}
use Rattle.expressions.specs.Calling.{arguments}

module _ (s : Store) where
  pub known_under : (n : ℕ) (values : List Argument) → AllKnown s values → AllKnown s (drop n values)
  known_under zero values known = known
  known_under (suc n) [] known = tt
  known_under (suc n) (v ∷ values) known = known_under n values known.1

  known_taken : (n : ℕ) (values : List Argument) → AllKnown s values → AllKnown s (take n values)
  known_taken zero values known = tt
  known_taken (suc n) [] known = tt
  known_taken (suc n) (v ∷ values) known = (known.0, known_taken n values known.1)

  known_joined : (values more : List Argument) → AllKnown s values → AllKnown s more → AllKnown s (values ++ more)
  known_joined [] more known also = also
  known_joined (v ∷ values) more known also = (known.0, known_joined values more known.1 also)

  known_reversed : (values : List Argument) → AllKnown s values → AllKnown s (reverse values)
  known_reversed [] known = tt
  known_reversed (v ∷ values) known =
      subst (AllKnown s) (sym (reverse-append (v ∷ []) values)) (known_joined (reverse values) (v ∷ []) (known_reversed values known.1) (known.0, tt))

  pub known_newest : (n : ℕ) (values args : List Argument) → args ≡ reverse (take n values) → AllKnown s values → AllKnown s args
  known_newest n values args e known = subst (AllKnown s) (sym e) (known_reversed (take n values) (known_taken n values known))

-- what is taken off a stack as arguments, and what is left on it
module _ {M : Type 0} (s : Store) where
  taken_before : (n : ℕ) (hand : List Held) (values : List Argument) (next : List Held → List Held → Next M) → n ≤ length values
      → take_off n hand (arguments_in s values) next ≡ next (arguments s n values ++ hand) (arguments_in s (drop n values))
  taken_before zero hand values next h = refl
  taken_before (suc n) hand [] next h = absurd (omega arith)
  taken_before (suc n) hand (v ∷ values) next h =
      taken_before n (argument_in s v ∷ hand) values next (omega arith)
      ∙ ap (λ (args : List Held). next args (arguments_in s (drop n values))) (turned (take n values))
    where
      turned : (xs : List Argument) → arguments_in s (reverse xs) ++ (argument_in s v ∷ hand) ≡ arguments_in s (reverse (v ∷ xs)) ++ hand
      turned xs = rw (reverse-append (v ∷ []) xs, map-append, append_assoc)

  pub taken_off : (n : ℕ) (values : List Argument) (next : List Held → List Held → Next M) → n ≤ length values
      → take_off n [] (arguments_in s values) next ≡ next (arguments s n values) (arguments_in s (drop n values))
  taken_off n values next h =
      taken_before n [] values next h
      ∙ ap (λ (args : List Held). next args (arguments_in s (drop n values))) (append-nil (arguments s n values))

  -- too few of them
  pub not_taken_off : (n : ℕ) (hand : List Held) (values : List Argument) (next : List Held → List Held → Next M) → length values < n
      → take_off n hand (arguments_in s values) next ≡ stuck
  not_taken_off zero hand values next h = absurd (omega arith)
  not_taken_off (suc n) hand [] next h = refl
  not_taken_off (suc n) hand (v ∷ values) next h = not_taken_off n (argument_in s v ∷ hand) values next (omega arith)
