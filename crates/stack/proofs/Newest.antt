-- Laws of the entries of a stack, by its slots and its length.
use Rattle.std.proofs.Common.{◌≡◌, ℕ, ◌+◌, ◌-◌, ◌<◌, ◌≤◌, true, false, ltb, List, [], ◌∷◌, ◌++◌, reverse, length, get_or, take, drop, set, sym, ◌∙◌, ⊎_elim, arith}
use borrow.Author.Tests.{lt-true, le-false}
use Rattle.std.proofs.lemmas.Grind.{common_steps}
use Rattle.std.proofs.lemmas.List.{reverse-append, reverse-reverse, take-append-drop, take-take, take_at, take_more, take_more_set, drop-take, drop_at, drop_all}
use Rattle.std.proofs.lemmas.Bool.{cases_lt}
use Rattle.stack.specs.Entries.{newest_first}

module _ {X : Type 0} where
  pub none : (xs : List X) (n : ℕ) → n ≡ 0 → newest_first xs n ≡ []
  unfolding newest_first
  none xs n e = grind (arith, common_steps)

  pub length_newest : (xs : List X) (n : ℕ) → n ≤ length xs → length (newest_first xs n) ≡ n
  unfolding newest_first
  length_newest xs n h = grind (arith, common_steps)

  -- whether there is room for one more
  pub has_room : (xs : List X) (n : ℕ) → n < length xs → ltb (length (newest_first xs n)) (length xs) ≡ true
  has_room xs n h = sym (lt-true _ _ (rw (length_newest xs n (omega arith)) h))

  pub no_room : (xs : List X) (n : ℕ) → n ≤ length xs → length xs ≤ n → ltb (length (newest_first xs n)) (length xs) ≡ false
  no_room xs n inside h = sym (le-false _ _ (rw (length_newest xs n inside) h))

  pub one_more : (xs : List X) (n : ℕ) (x : X) → n < length xs → newest_first (set xs n x) (n + 1) ≡ x ∷ newest_first xs n
  unfolding newest_first
  one_more xs n x h = grind (arith, common_steps, reverse-append, take_more_set)

  -- the newest of so many entries, and the others
  pub one_less : (xs : List X) (n : ℕ) (d : X) → n < length xs → newest_first xs (n + 1) ≡ get_or xs n d ∷ newest_first xs n
  unfolding newest_first
  one_less xs n d h = grind (arith, common_steps, reverse-append, take_more)

  -- so many of the newest, as they lie in the slots
  abbrev pub part : (xs : List X) (n i : ℕ) → List X
  part xs n i = take i (drop (n - i) xs)

  -- these and the others
  parted : (xs : List X) (n i : ℕ) → i ≤ n → n ≤ length xs → newest_first xs n ≡ reverse (part xs n i) ++ newest_first xs (n - i)
  unfolding newest_first
  parted xs n i few inside =
      let cut = take-append-drop (n - i) (take n xs) in
      let middle = drop-take (n - i) i xs in
      grind (arith, common_steps, reverse-append, take-take)

  pub newest_part : (xs : List X) (n i : ℕ) → i ≤ n → n ≤ length xs → part xs n i ≡ reverse (take i (newest_first xs n))
  newest_part xs n i few inside = let cut = parted xs n i few inside in grind (arith, common_steps, take_at, reverse-reverse)

  -- without the newest, so many
  pub without : (xs : List X) (n i : ℕ) → n ≤ length xs → drop i (newest_first xs n) ≡ newest_first xs (n - i)
  without xs n i inside =
      ⊎_elim
      (λ (past : n < i). grind (arith, common_steps, none, length_newest, drop_all))
      (λ (few : i ≤ n). let cut = parted xs n i few inside in grind (arith, common_steps, drop_at))
      (cases_lt n i)

  pub past : (xs : List X) (n i : ℕ) → n ≤ length xs → n ≤ i → drop i (newest_first xs n) ≡ []
  past xs n i inside h = without xs n i inside ∙ none xs (n - i) (omega arith)

  -- the entry under so many newer ones
  pub at : (xs : List X) (n i : ℕ) (x : X) → i < n → n ≤ length xs → x ≡ get_or xs (n - 1 - i) x →
      drop i (newest_first xs n) ≡ x ∷ drop (i + 1) (newest_first xs n)
  at xs n i x few inside is =
      let here : n - i ≡ (n - 1 - i) + 1 = omega arith in rw (without xs n i inside, without xs n (i + 1) inside, here) (grind (arith, one_less))

  pub newest_and_rest : (xs : List X) (n : ℕ) (d : X) → 0 < n → n ≤ length xs → newest_first xs n ≡ get_or xs (n - 1) d ∷ newest_first xs (n - 1)
  newest_and_rest xs n d some inside = grind (arith, one_less xs (n - 1) d)

  pub newest_and_others : (xs : List X) (n : ℕ) (d : X) → 0 < n → n ≤ length xs → newest_first xs n ≡ get_or xs (n - 1) d ∷ drop 1 (newest_first xs n)
  newest_and_others xs n d some inside = grind (arith, newest_and_rest xs n d, without xs n 1)

  -- another in the place of the newest
  pub newest_replaced : (xs : List X) (n : ℕ) (x : X) → 0 < n → n ≤ length xs → newest_first (set xs (n - 1) x) n ≡ x ∷ drop 1 (newest_first xs n)
  newest_replaced xs n x some inside = grind (arith, one_more xs (n - 1) x, without xs n 1)
