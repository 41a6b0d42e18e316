-- Lists and maps are built by their parts in a row.
use Rattle.std.proofs.Common.{◌≡◌, ℕ, zero, suc, Bool, true, false, drop, Some, None, Option, sym, refl, ap, ◌∙◌}
use Rattle.meaning.specs.Charge.{◌⊕◌, free, one_cell, cell_and_text, cost, cost_items, cost_entries, within}
use Rattle.meaning.specs.Or.{fails, gives}
use Rattle.meaning.specs.Step.{return, continue, ◌>>=◌, ◌>>◌}
use Rattle.meaning.specs.Value.{Value, Items, no_items, item, Entries, no_entries, entry, Text, none, boolean, integer, float, string, list, map}
use Rattle.meaning.specs.Parts.{append}
use Rattle.meaning.specs.declared.fault.Cause.TheVariants.{Malformed, TooDeep}
use Rattle.packing.specs.Commands.{list_byte, map_byte}
use Rattle.packing.specs.Limits.{Before, no_key, the_key, ascends}
use Rattle.packing.specs.Reader.{Outcome, read, refused, Reader, ensure, word}
use Rattle.packing.specs.Unpacking.{entries, items, nothing_below, text, value_of, value_within}
use Rattle.store.specs.Kinds.{kind_of}
use Rattle.store.specs.Stores.{Added, Known, supply, used, value}
use Rattle.store.specs.Values.{pushed, inserted}
use Rattle.store.specs.declared.cell.Ref.{Ref}
use Rattle.store.specs.declared.kinds.Kind.{Kind}
use Rattle.store.specs.declared.memory.Store.{Store}
use Rattle.store.proofs.Stores.{over_itself}
use Rattle.values.specs.Measures.{rest_within}
use Rattle.values.proofs.Sums.{plus_free}
use Rattle.loading.specs.Building.{BuildsItems, BuildsEntries, BuildsValue, all_pushed, all_inserted}
use Rattle.loading.proofs.Parts.{Steps, builds_after, builds_not, part_on, part_not, cell_not}
use Rattle.loading.proofs.Rising.{map_of_read}

-- LISTS

item_steps : Steps cost_items all_pushed item pushed one_cell
item_steps = record { prices = λ v x. refl; builds = λ w v x. refl }

module _ (a b : Store) (child : Reader Value) (m k : ℕ) (x bytes : Text) (some : m ≡ suc k) where
  pub items_on : (d s : Store) (w w' part : Ref) (next : ℕ) (r : Option (Ref × ℕ)) → BuildsValue a b (child x) bytes (Some (part, next)) → Known a w → Added b d one_cell (pushed (value b w) (value b part)) w' → BuildsItems d s (value d w') (items child k (drop next bytes)) bytes r → BuildsItems a s (value a w) (items child m x) bytes r
  unfolding items
  items_on d s w w' part next r p known q h = rw some (part_on cost_items all_pushed item pushed one_cell item_steps a b child (items child k) x bytes d s w w' part next r p known q h)

  pub items_no_value : (s : Store) (w : Value) → BuildsValue a b (child x) bytes None → BuildsItems a s w (items child m x) bytes None
  unfolding items
  items_no_value s w p = rw some (part_not cost_items all_pushed item pushed one_cell item_steps a b child (items child k) x bytes s w p)

  pub items_no_cell : (s : Store) (w : Value) (part : Ref) (next : ℕ) → BuildsValue a b (child x) bytes (Some (part, next)) → within (supply b) (used b ⊕ one_cell) ≡ false → BuildsItems a s w (items child m x) bytes None
  unfolding items
  items_no_cell s w part next p small = rw some (cell_not cost_items all_pushed item pushed one_cell item_steps a b child (items child k) x bytes s w part next p small)

nothing_more : (a : Store) (w : Ref) → Known a w → Added a a free (value a w) w
nothing_more a w known = record { grown = record { over = over_itself a; paid = sym (plus_free (used a)) }; known = known; means = refl }

pub items_done : (a : Store) (child : Reader Value) (m : ℕ) (bytes : Text) (next : ℕ) (w : Ref) → m ≡ 0 → Known a w → BuildsItems a a (value a w) (items child m (drop next bytes)) bytes (Some (w, next))
unfolding items
items_done a child m bytes next w end known = rw end (nothing_more a w known, refl)

joined : Items → Items → Items
joined no_items vs = vs
joined (item w ws) vs = item w (joined ws vs)

joined_append : (ws : Items) (v : Value) (vs : Items) → joined (append ws v) vs ≡ joined ws (item v vs)
unfolding joined
joined_append no_items v vs = refl
joined_append (item w ws) v vs = ap (item w) (joined_append ws v vs)

joined_none : (ws : Items) → joined ws no_items ≡ ws
unfolding joined
joined_none no_items = refl
joined_none (item w ws) = ap (item w) (joined_none ws)

pushed_onto : (ws vs : Items) → all_pushed (list ws) vs ≡ list (joined ws vs)
unfolding joined
pushed_onto ws no_items = ap list (sym (joined_none ws))
pushed_onto ws (item v vs) = pushed_onto (append ws v) vs ∙ ap list (joined_append ws v vs)

list_of_read : (vs : Items) → all_pushed (list no_items) vs ≡ list vs
unfolding joined
list_of_read vs = pushed_onto no_items vs

module _ (a s : Store) (levels at : ℕ) where
  pub list_cut : (x bytes : Text) (r : Option (Ref × ℕ)) → refused Malformed at ≡ word 2 at x → BuildsValue a s (rest_within levels at list_byte x) bytes r
  unfolding value_of
  list_cut x bytes r e = rw (sym e) tt

  pub map_cut : (x bytes : Text) (r : Option (Ref × ℕ)) → refused Malformed at ≡ word 2 at x → BuildsValue a s (rest_within levels at map_byte x) bytes r
  unfolding value_of
  map_cut x bytes r e = rw (sym e) tt

  pub list_deep : (n : ℕ) (x t bytes : Text) (r : Option (Ref × ℕ)) → read n t ≡ word 2 at x → levels ≡ 0 → BuildsValue a s (rest_within levels at list_byte x) bytes r
  unfolding value_of
  list_deep n x t bytes r e shut = rw (shut, sym e) tt

  -- with no level left no entries are read
  pub map_deep : (n : ℕ) (x t bytes : Text) (r : Option (Ref × ℕ)) → read n t ≡ word 2 at x → levels ≡ 0 → BuildsValue a s (rest_within levels at map_byte x) bytes r
  unfolding value_of entries
  map_deep n x t bytes r e shut = rw (shut, sym e) (by n)
    where
      by : (n : ℕ) → BuildsValue a s (continue (entries at false nothing_below n no_key t) (λ es. return (map es))) bytes r
      by zero = tt
      by (suc n) = keyed (text at t)
        where
          keyed : (o : Outcome Text) → BuildsValue a s (continue (continue o (λ k. ensure (ascends no_key k) Malformed at >> (ensure false TooDeep at >> (nothing_below >>= λ v. entries at false nothing_below n (the_key k) >>= λ es. return (entry k v es))))) (λ es. return (map es))) bytes r
          keyed (gives (k, u)) = tt
          keyed (fails refusal) = tt

module _ (a b s : Store) (levels at below n : ℕ) (x t bytes : Text) (room : levels ≡ suc below) (count : read n t ≡ word 2 at x) where
  pub list_on : (empty : Ref) (r : Option (Ref × ℕ)) → Added a b one_cell (list no_items) empty → BuildsItems b s (value b empty) (items (value_within below) n t) bytes r → BuildsValue a s (rest_within levels at list_byte x) bytes r
  unfolding value_of
  list_on empty r q h = rw (room, sym count) (ends (items (value_within below) n t) h)
    where
      ends : (o : Outcome Items) → BuildsItems b s (value b empty) o bytes r → BuildsValue a s (continue o (λ vs. return (list vs))) bytes r
      ends (fails refusal) h = tt
      ends (gives (vs, u)) h = builds_after a b s one_cell (cost_items vs) (cost (list vs)) (all_pushed (value b empty) vs) (list vs) u bytes r q.grown refl (ap (λ w. all_pushed w vs) q.means ∙ list_of_read vs) h

  pub list_no_cell : within (supply a) (used a ⊕ one_cell) ≡ false → BuildsValue a s (rest_within levels at list_byte x) bytes None
  unfolding value_of
  list_no_cell small = rw (room, sym count) (ends (items (value_within below) n t))
    where
      ends : (o : Outcome Items) → BuildsValue a s (continue o (λ vs. return (list vs))) bytes None
      ends (fails refusal) = tt
      ends (gives (vs, u)) = builds_not a s one_cell (cost_items vs) (cost (list vs)) (list vs) u bytes small refl

  pub map_on : (empty : Ref) (r : Option (Ref × ℕ)) → Added a b one_cell (map no_entries) empty → BuildsEntries b s (value b empty) (entries at true (value_within below) n no_key t) bytes r → BuildsValue a s (rest_within levels at map_byte x) bytes r
  unfolding value_of
  map_on empty r q h = rw (room, sym count) (ends (entries at true (value_within below) n no_key t) refl h)
    where
      ends : (o : Outcome Entries) → entries at true (value_within below) n no_key t ≡ o → BuildsEntries b s (value b empty) o bytes r → BuildsValue a s (continue o (λ es. return (map es))) bytes r
      ends (fails refusal) e h = tt
      ends (gives (es, u)) e h = builds_after a b s one_cell (cost_entries es) (cost (map es)) (all_inserted (value b empty) es) (map es) u bytes r q.grown refl (ap (λ w. all_inserted w es) q.means ∙ map_of_read at (value_within below) n t es u e) h

  pub map_no_cell : within (supply a) (used a ⊕ one_cell) ≡ false → BuildsValue a s (rest_within levels at map_byte x) bytes None
  unfolding value_of
  map_no_cell small = rw (room, sym count) (ends (entries at true (value_within below) n no_key t))
    where
      ends : (o : Outcome Entries) → BuildsValue a s (continue o (λ es. return (map es))) bytes None
      ends (fails refusal) = tt
      ends (gives (es, u)) = builds_not a s one_cell (cost_entries es) (cost (map es)) (map es) u bytes small refl

-- MAPS

module _ (k : Text) where
  put : Value → Value → Value
  put m v = inserted m k v

  entry_steps : Steps cost_entries all_inserted (entry k) put (cell_and_text k)
  unfolding put
  entry_steps = record { prices = λ v x. refl; builds = λ w v x. refl }

module _ (a b : Store) (at : ℕ) (child : Reader Value) (m n : ℕ) (before : Before) (x bytes k t : Text) (some : m ≡ suc n) (key : read k t ≡ text at x) where
  pub entries_on : (d s : Store) (w w' part : Ref) (next : ℕ) (r : Option (Ref × ℕ)) → BuildsValue a b (child t) bytes (Some (part, next)) → Known a w → Added b d (cell_and_text k) (inserted (value b w) k (value b part)) w' → BuildsEntries d s (value d w') (entries at true child n (the_key k) (drop next bytes)) bytes r → BuildsEntries a s (value a w) (entries at true child m before x) bytes r
  unfolding entries put
  entries_on d s w w' part next r p known q h = rw (some, sym key) (by (ascends before k))
    where
      by : (up : Bool) → BuildsEntries a s (value a w) (continue (ensure up Malformed at t) (λ _. child >>= λ v. entries at true child n (the_key k) >>= λ es. return (entry k v es))) bytes r
      by false = tt
      by true = part_on cost_entries all_inserted (entry k) (put k) (cell_and_text k) (entry_steps k) a b child (entries at true child n (the_key k)) t bytes d s w w' part next r p known q h

  pub entries_no_value : (s : Store) (w : Value) → BuildsValue a b (child t) bytes None → BuildsEntries a s w (entries at true child m before x) bytes None
  unfolding entries put
  entries_no_value s w p = rw (some, sym key) (by (ascends before k))
    where
      by : (up : Bool) → BuildsEntries a s w (continue (ensure up Malformed at t) (λ _. child >>= λ v. entries at true child n (the_key k) >>= λ es. return (entry k v es))) bytes None
      by false = tt
      by true = part_not cost_entries all_inserted (entry k) (put k) (cell_and_text k) (entry_steps k) a b child (entries at true child n (the_key k)) t bytes s w p

  pub entries_no_cell : (s : Store) (w : Value) (part : Ref) (next : ℕ) → BuildsValue a b (child t) bytes (Some (part, next)) → within (supply b) (used b ⊕ cell_and_text k) ≡ false → BuildsEntries a s w (entries at true child m before x) bytes None
  unfolding entries put
  entries_no_cell s w part next p small = rw (some, sym key) (by (ascends before k))
    where
      by : (up : Bool) → BuildsEntries a s w (continue (ensure up Malformed at t) (λ _. child >>= λ v. entries at true child n (the_key k) >>= λ es. return (entry k v es))) bytes None
      by false = tt
      by true = cell_not cost_entries all_inserted (entry k) (put k) (cell_and_text k) (entry_steps k) a b child (entries at true child n (the_key k)) t bytes s w part next p small

pub entries_cut : (a s : Store) (at : ℕ) (child : Reader Value) (m n : ℕ) (before : Before) (x bytes : Text) (w : Value) (r : Option (Ref × ℕ)) → m ≡ suc n → refused Malformed at ≡ text at x → BuildsEntries a s w (entries at true child m before x) bytes r
unfolding entries
entries_cut a s at child m n before x bytes w r some e = rw (some, sym e) tt

pub entries_done : (a : Store) (at : ℕ) (child : Reader Value) (m : ℕ) (before : Before) (bytes : Text) (next : ℕ) (w : Ref) → m ≡ 0 → Known a w → BuildsEntries a a (value a w) (entries at true child m before (drop next bytes)) bytes (Some (w, next))
unfolding entries
entries_done a at child m before bytes next w end known = rw end (nothing_more a w known, refl)

-- KINDS

pub pushed_kind : (v w : Value) → kind_of v ≡ Kind.List → kind_of (pushed v w) ≡ Kind.List
pushed_kind none w e = e
pushed_kind (boolean b) w e = e
pushed_kind (integer n) w e = e
pushed_kind (float b) w e = e
pushed_kind (string t) w e = e
pushed_kind (list vs) w e = refl
pushed_kind (map es) w e = e

pub inserted_kind : (v : Value) (k : Text) (w : Value) → kind_of v ≡ Kind.Map → kind_of (inserted v k w) ≡ Kind.Map
inserted_kind none k w e = e
inserted_kind (boolean b) k w e = e
inserted_kind (integer n) k w e = e
inserted_kind (float b) k w e = e
inserted_kind (string t) k w e = e
inserted_kind (list vs) k w e = e
inserted_kind (map es) k w e = refl
