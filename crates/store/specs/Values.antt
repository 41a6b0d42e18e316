-- The parts of any value: one that is no list or map has none, and takes none.
use Rattle.std.specs.Prelude.{ℕ, zero, suc, Bool, true, false, cond, ◌&&◌, ◌==◌, nat_eq}
use Rattle.std.proofs.Math.Option.{Option, none, some}
use Rattle.meaning.specs.Bytes.{precedes}
use Rattle.meaning.specs.Value.{Value, list, map, Entries, no_entries, entry, Text}
use Rattle.meaning.specs.Parts.{shape, of_items, of_entries, single, count_items, count_entries, nth, value_of, append, insert}

-- a list with one part more
abbrev pub pushed : Value → Value → Value
pushed v part = elim (shape v) [ of_items xs ↦ list (append xs part) | of_entries es ↦ v | single ↦ v ]

-- a map with that part under the key
abbrev pub inserted : Value → Text → Value → Value
inserted v key part = elim (shape v) [ of_items xs ↦ v | of_entries es ↦ map (insert key part es) | single ↦ v ]

abbrev pub part_of : Value → ℕ → Option Value
part_of v n = elim (shape v) [ of_items xs ↦ nth xs n | of_entries es ↦ none | single ↦ none ]

abbrev pub entry_in : Value → Text → Option Value
entry_in v key = elim (shape v) [ of_items xs ↦ none | of_entries es ↦ value_of es key | single ↦ none ]

-- THE ENTRIES OF A MAP IN THEIR ORDER

-- counted from 0
abbrev pub nth_entry : Entries → ℕ → Option (Text × Value)
nth_entry no_entries n = none
nth_entry (entry k v es) zero = some (k, v)
nth_entry (entry k v es) (suc n) = nth_entry es n

abbrev pub entry_at : Value → ℕ → Option (Text × Value)
entry_at v n = elim (shape v) [ of_items xs ↦ none | of_entries es ↦ nth_entry es n | single ↦ none ]

-- a key above the bound, if there is one
abbrev pub above_bound : Option Text → Text → Bool
above_bound none key = true
above_bound (some bound) key = precedes bound key

-- the first entry whose key is above the bound
abbrev pub first_above : Entries → Option Text → Option (Text × Value)
first_above no_entries bound = none
first_above (entry k v es) bound = cond (above_bound bound k) (some (k, v)) (first_above es bound)

abbrev pub first_in : Value → Option Text → Option (Text × Value)
first_in v bound = elim (shape v) [ of_items xs ↦ none | of_entries es ↦ first_above es bound | single ↦ none ]

-- whether some key is above the bound
abbrev pub any_above : Value → Option Text → Bool
any_above v bound = elim (first_in v bound) [ none ↦ false | some e ↦ true ]

-- of two entries the one with the lower key, and the first where the keys are the same
abbrev pub lower : Option (Text × Value) → Option (Text × Value) → Option (Text × Value)
lower none f = f
lower (some e) none = some e
lower (some e) (some f) = cond (precedes f.0 e.0) (some f) (some e)

-- the first key, if any, is above that key
abbrev pub starts_above : Text → Entries → Bool
starts_above key no_entries = true
starts_above key (entry k v es) = precedes key k

abbrev pub ascends : Entries → Bool
ascends no_entries = true
ascends (entry k v es) = starts_above k es && ascends es

-- the key is above all keys
abbrev pub above_all : Text → Entries → Bool
above_all key no_entries = true
above_all key (entry k v es) = precedes k key && above_all key es

-- HOW MANY PARTS

abbrev pub has_parts : ℕ → Value → Bool
has_parts n v = elim (shape v) [ of_items xs ↦ nat_eq (count_items xs) n | of_entries es ↦ false | single ↦ false ]

-- so many entries, whose keys ascend
abbrev pub has_entries : ℕ → Value → Bool
has_entries n v = elim (shape v) [ of_items xs ↦ false | of_entries es ↦ (count_entries es == n) && ascends es | single ↦ false ]

-- whether a key may be put behind all others
abbrev pub goes_last : Text → Value → Bool
goes_last key v = elim (shape v) [ of_items xs ↦ false | of_entries es ↦ above_all key es | single ↦ false ]
