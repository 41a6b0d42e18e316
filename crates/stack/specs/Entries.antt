-- What a stack holds, the newest first, and what each method does to that.
use Rattle.std.specs.Prelude.{◌≡◌, ℕ, ◌+◌, ◌<◌, ◌≤◌, true, false, List, [], ◌∷◌, reverse, length, take, drop, Some, None, Ok, Err, Option, Result, nat_lt}
use Rattle.std.specs.Borrow.{Bor}
use Rattle.stack.specs.declared.Stack.{Stack}
use Rattle.stack.specs.declared.Full.{Full}

module _ {X : Type 0} where
  unfoldable pub newest_first : (slots : List X) (len : ℕ) → List X
  newest_first slots len = reverse (take len slots)

  abbrev pub entries : Stack X → List X
  entries s = newest_first s.slots.now s.len

  -- how many entries there can be
  abbrev pub room : Stack X → ℕ
  room s = length s.slots.now

  -- in the same memory, lent by the same owner
  pub record Kept (before after : Stack X) : Type 0 where
    pub same_room : room after ≡ room before
    pub lender : after.slots.ghost_name ≡ before.slots.ghost_name

  -- the newest entry is put on, if there is room
  abbrev pub Pushed : (room : ℕ) → X → Result (Unit {0}) Full → (before after : List X) → Type 0
  Pushed room x (Ok done) before after = (nat_lt (length before) room ≡ true) × (after ≡ x ∷ before)
  Pushed room x (Err full) before after = (nat_lt (length before) room ≡ false) × (after ≡ before)

  -- the newest entry is taken off, if there is one
  abbrev pub Popped : Option X → (before after : List X) → Type 0
  Popped None before after = (before ≡ []) × (after ≡ [])
  Popped (Some x) before after = before ≡ x ∷ after

  -- another entry in the place of the newest
  abbrev pub Replaced : X → Option X → (before after : List X) → Type 0
  Replaced x None before after = (before ≡ []) × (after ≡ [])
  Replaced x (Some old) before after = (before ≡ old ∷ drop 1 before) × (after ≡ x ∷ drop 1 before)

  -- the entry under so many newer ones, if there is one
  abbrev pub At : ℕ → Option X → List X → Type 0
  At i None all = (length all ≤ i) × (drop i all ≡ [])
  At i (Some x) all = (i < length all) × (drop i all ≡ x ∷ drop (i + 1) all)

  -- so many of the newest, in the order in which they came, if there are so many
  abbrev pub Newest : ℕ → Option (Bor (List X)) → List X → Type 0
  Newest n None all = length all < n
  Newest n (Some part) all = (n ≤ length all) × (part.now ≡ reverse (take n all))
