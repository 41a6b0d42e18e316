-- The parts of a value in a store, as far as they are outlined: what is left gives the whole.
use Rattle.std.proofs.Common.{◌≡◌, ℕ, zero, suc, ◌+◌, ◌<◌, ◌≤◌, List, [], ◌++◌, Some, None, Result, sym, refl, ap, ◌∙◌, subst, add-one, append-nil, arith}
use mathlib.Core.Option.{Option, none, some}
use Rattle.std.specs.declared.alloc.AllocError.{AllocError}
use Rattle.meaning.specs.Charge.{cost, cost_items, cost_entries}
use Rattle.meaning.specs.Parts.{shape, of_items, of_entries, single, count_items, count_entries, nth}
use Rattle.meaning.specs.Value.{Value, none as none_value, boolean, integer, float, string, list, map, Items, no_items, item, Entries, no_entries, entry, Text}
use Rattle.reader.specs.Meanings.{plain_of}
use Rattle.reader.specs.declared.literal.PlainValue.{PlainValue}
use Rattle.reader.specs.declared.literal.PlainValue.TheVariants as plain
use Rattle.store.specs.Stores.{Found, Known, value}
use Rattle.store.specs.Values.{part_of, entry_at, nth_entry}
use Rattle.store.specs.declared.cell.Ref.{Ref}
use Rattle.store.specs.declared.memory.Store.{Store}
use Rattle.job.specs.Lines.{Adds, Wrote, label_line, list_words, map_words, value_text}
use Rattle.job.specs.Stored.{IsList, IsMap, Shows, outline_parts, shown_words}
use Rattle.job.specs.Values.{head_line, key_line, outline_value, outline_items, outline_entries}
use Rattle.job.specs.declared.stored.Shown.{Shown}
use Rattle.job.specs.declared.stored.Shown.TheVariants as shown
use Rattle.job.proofs.Writing.{adds_same, then_wrote, wrote_same}

-- from the part with that number on
abbrev pub items_from : ℕ → Items → Items
items_from zero xs = xs
items_from (suc n) no_items = no_items
items_from (suc n) (item v xs) = items_from n xs

abbrev pub entries_from : ℕ → Entries → Entries
entries_from zero es = es
entries_from (suc n) no_entries = no_entries
entries_from (suc n) (entry k v es) = entries_from n es

abbrev pub parts_from : (depth n : ℕ) → Value → List ℕ
parts_from depth n v = elim (shape v) [ of_items xs ↦ outline_items depth (items_from n xs) | of_entries es ↦ outline_entries depth (entries_from n es) | single ↦ [] ]

-- a value, by its line and what stands under it
pub value_lines : (depth : ℕ) (v : Value) → head_line depth v ++ outline_parts (depth + 1) v ≡ outline_value depth v
unfolding outline_value
value_lines depth none_value = append-nil _
value_lines depth (boolean b) = append-nil _
value_lines depth (integer n) = append-nil _
value_lines depth (float bits) = append-nil _
value_lines depth (string t) = append-nil _
value_lines depth (list xs) = refl
value_lines depth (map es) = refl

-- LISTS

items_on : (depth n : ℕ) (xs : Items) (w : Value) → nth xs n ≡ some w → outline_items depth (items_from n xs) ≡ outline_value depth w ++ outline_items depth (items_from (suc n) xs)
unfolding outline_value
items_on depth n no_items w e = cc
items_on depth zero (item v xs) w e = let same : v ≡ w = cc in ap (λ u. outline_value depth u ++ outline_items depth xs) same
items_on depth (suc n) (item v xs) w e = items_on depth n xs w e

items_end : (depth n : ℕ) (xs : Items) → count_items xs ≤ n → outline_items depth (items_from n xs) ≡ []
unfolding outline_value
items_end depth zero no_items h = refl
items_end depth zero (item v xs) h = absurd (omega arith)
items_end depth (suc n) no_items h = refl
items_end depth (suc n) (item v xs) h = items_end depth n xs (omega arith)

items_there : (n : ℕ) (xs : Items) → n < count_items xs → nth xs n ≡ none → ⊥
items_there n no_items h e = omega arith
items_there zero (item v xs) h e = cc
items_there (suc n) (item v xs) h e = items_there n xs (omega arith) e

items_cost : (n : ℕ) (xs : Items) (w : Value) → nth xs n ≡ some w → (cost w).cells + 1 ≤ (cost_items xs).cells
items_cost n no_items w e = cc
items_cost zero (item v xs) w e =
    let is : v ≡ w = cc in
    let same : (cost v).cells ≡ (cost w).cells = ap (λ u. (cost u).cells) is in
    omega arith
items_cost (suc n) (item v xs) w e = let less = items_cost n xs w e in omega arith

-- MAPS

entries_on : (depth n : ℕ) (es : Entries) (k : Text) (w : Value) → nth_entry es n ≡ some (k, w) → outline_entries depth (entries_from n es) ≡ (key_line depth k ++ outline_value (depth + 1) w) ++ outline_entries depth (entries_from (suc n) es)
unfolding outline_value
entries_on depth n no_entries k w e = cc
entries_on depth zero (entry q v es) k w e =
    let pair : ◌≡◌ {A = Text × Value} (q, v) (k, w) = cc in
    let key : q ≡ k = ap (λ p. p.0) pair in
    let same : v ≡ w = ap (λ p. p.1) pair in
    λ i. (key_line depth (key i) ++ outline_value (depth + 1) (same i)) ++ outline_entries depth es
entries_on depth (suc n) (entry q v es) k w e = entries_on depth n es k w e

entries_end : (depth n : ℕ) (es : Entries) → count_entries es ≤ n → outline_entries depth (entries_from n es) ≡ []
unfolding outline_value
entries_end depth zero no_entries h = refl
entries_end depth zero (entry k v es) h = absurd (omega arith)
entries_end depth (suc n) no_entries h = refl
entries_end depth (suc n) (entry k v es) h = entries_end depth n es (omega arith)

entries_there : (n : ℕ) (es : Entries) → n < count_entries es → nth_entry es n ≡ none → ⊥
entries_there n no_entries h e = omega arith
entries_there zero (entry k v es) h e = cc
entries_there (suc n) (entry k v es) h e = entries_there n es (omega arith) e

entries_cost : (n : ℕ) (es : Entries) (k : Text) (w : Value) → nth_entry es n ≡ some (k, w) → (cost w).cells + 1 ≤ (cost_entries es).cells
entries_cost n no_entries k w e = cc
entries_cost zero (entry q v es) k w e =
    let pair : ◌≡◌ {A = Text × Value} (q, v) (k, w) = cc in
    let same : (cost v).cells ≡ (cost w).cells = ap (λ (p : Text × Value). (cost p.1).cells) pair in
    omega arith
entries_cost (suc n) (entry q v es) k w e = let less = entries_cost n es k w e in omega arith

-- OF ANY VALUE

module _ (v : Value) (n count : ℕ) where
  module _ (l : IsList v count) where
    pub part_there : n < count → part_of v n ≡ none → ⊥
    part_there h e = items_there n l.0 (omega (arith, l.2)) (ap (λ u. part_of u n) (sym l.1) ∙ e)

    pub part_cost : (w : Value) → part_of v n ≡ some w → (cost w).cells + 2 ≤ (cost v).cells
    part_cost w e =
        let less = items_cost n l.0 w (ap (λ u. part_of u n) (sym l.1) ∙ e) in
        let whole = ap (λ u. (cost u).cells) l.1 in
        omega arith

    pub part_on : (depth : ℕ) (w : Value) → part_of v n ≡ some w → parts_from depth n v ≡ outline_value depth w ++ parts_from depth (n + 1) v
    part_on depth w e =
        ap (parts_from depth n) l.1
        ∙ items_on depth n l.0 w (ap (λ u. part_of u n) (sym l.1) ∙ e)
        ∙ ap (λ u. outline_value depth w ++ parts_from depth (suc n) u) (sym l.1)
        ∙ ap (λ m. outline_value depth w ++ parts_from depth m v) (sym (add-one n))

    pub parts_end : (depth : ℕ) → count ≤ n → parts_from depth n v ≡ []
    parts_end depth h = ap (parts_from depth n) l.1 ∙ items_end depth n l.0 (omega (arith, l.2))

  module _ (m : IsMap v count) where
    pub entry_there : n < count → entry_at v n ≡ none → ⊥
    entry_there h e = entries_there n m.0 (omega (arith, m.2)) (ap (λ u. entry_at u n) (sym m.1) ∙ e)

    pub entry_cost : (k : Text) (w : Value) → entry_at v n ≡ some (k, w) → (cost w).cells + 2 ≤ (cost v).cells
    entry_cost k w e =
        let less = entries_cost n m.0 k w (ap (λ u. entry_at u n) (sym m.1) ∙ e) in
        let whole = ap (λ u. (cost u).cells) m.1 in
        omega arith

    pub entry_on : (depth : ℕ) (k : Text) (w : Value) → entry_at v n ≡ some (k, w) → parts_from depth n v ≡ (key_line depth k ++ outline_value (depth + 1) w) ++ parts_from depth (n + 1) v
    entry_on depth k w e =
        ap (parts_from depth n) m.1
        ∙ entries_on depth n m.0 k w (ap (λ u. entry_at u n) (sym m.1) ∙ e)
        ∙ ap (λ u. (key_line depth k ++ outline_value (depth + 1) w) ++ parts_from depth (suc n) u) (sym m.1)
        ∙ ap (λ o. (key_line depth k ++ outline_value (depth + 1) w) ++ parts_from depth o v) (sym (add-one n))

    pub entries_all : (depth : ℕ) → count ≤ n → parts_from depth n v ≡ []
    entries_all depth h = ap (parts_from depth n) m.1 ∙ entries_end depth n m.0 (omega (arith, m.2))

-- WHAT IS FOUND IN A STORE

pub found_none : (s : Store) (o : Option Value) → Found s o None → o ≡ none
found_none s (some v) f = absurd f
found_none s none f = refl

pub found_some : (s : Store) (o : Option Value) (r : Ref) → Found s o (Some r) → Known s r × (o ≡ some (value s r))
found_some s (some v) r f = (f.0, ap some (sym f.1))
found_some s none r f = absurd f

-- WHOLE VALUES

plain_lines : (depth : ℕ) (p : PlainValue) → head_line depth (plain_of p) ≡ outline_value depth (plain_of p)
unfolding outline_value
plain_lines depth plain.Nothing = refl
plain_lines depth plain.False = refl
plain_lines depth plain.True = refl
plain_lines depth (plain.Integer n) = refl
plain_lines depth (plain.Float bits) = refl
plain_lines depth (plain.String b) = refl

shown_text : (v : Value) (s : Shown) → Shows v s → shown_words s ≡ value_text v
shown_text v (shown.Plain p) h = ap value_text h
shown_text v (shown.List count) h = ap list_words (sym h.2) ∙ ap value_text (sym h.1)
shown_text v (shown.Map count) h = ap map_words (sym h.2) ∙ ap value_text (sym h.1)

module _ (depth : ℕ) (v : Value) (s : Shown) (shows : Shows v s) where
  pub plain_alone : (p : PlainValue) → s ≡ shown.Plain p → label_line depth (shown_words s) ≡ outline_value depth v
  plain_alone p is =
      let same : plain_of p ≡ v = subst (Shows v) is shows in
      ap (label_line depth) (shown_text v s shows) ∙ ap (head_line depth) (sym same) ∙ plain_lines depth p ∙ ap (outline_value depth) same

  pub whole_wrote : {A : Type 0} {x y z : List ℕ} (r : Result A AllocError) → Adds (label_line depth (shown_words s)) x y → Wrote (outline_parts (depth + 1) v) r y z → Wrote (outline_value depth v) r x z
  whole_wrote r line parts = wrote_same r (value_lines depth v) (then_wrote r (adds_same (ap (label_line depth) (shown_text v s shows)) line) parts)
