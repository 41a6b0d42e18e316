-- What the writers of a value's outline promise: of a value in a store, what code sees of it, and what stands under its line.
use Rattle.std.specs.Prelude.{◌≡◌, ℕ, List, []}
use Rattle.meaning.specs.Parts.{shape, of_items, of_entries, single, count_items, count_entries}
use Rattle.meaning.specs.Value.{Value, list, map, Items, Entries}
use Rattle.reader.specs.Meanings.{plain_of}
use Rattle.job.specs.declared.stored.Shown.{Shown}
use Rattle.job.specs.declared.stored.Shown.TheVariants as shown
use Rattle.job.specs.Lines.{list_words, map_words, value_text}
use Rattle.job.specs.Values.{outline_items, outline_entries}

-- what stands under the line of a value
abbrev pub outline_parts : (depth : ℕ) → Value → List ℕ
outline_parts depth v = elim (shape v) [ of_items xs ↦ outline_items depth xs | of_entries es ↦ outline_entries depth es | single ↦ [] ]

-- a list of so many parts, and a map of so many entries
abbrev pub IsList : Value → ℕ → Type 0
IsList v count = (xs : Items) × (v ≡ list xs) × (count_items xs ≡ count)

abbrev pub IsMap : Value → ℕ → Type 0
IsMap v count = (es : Entries) × (v ≡ map es) × (count_entries es ≡ count)

-- what code sees of a value, and the words for it
abbrev pub Shows : Value → Shown → Type 0
Shows v (shown.Plain p) = plain_of p ≡ v
Shows v (shown.List count) = IsList v count
Shows v (shown.Map count) = IsMap v count

abbrev pub shown_words : Shown → List ℕ
shown_words (shown.Plain p) = value_text (plain_of p)
shown_words (shown.List count) = list_words count
shown_words (shown.Map count) = map_words count
