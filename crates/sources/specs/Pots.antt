-- Pots, and what a walk over a log of them stands at, as values.
use Rattle.std.specs.Prelude.{◌≡◌, ℕ, ◌/◌, List, [], ◌∷◌, length, pos, codes}
use Rattle.meaning.specs.Sources.{pot, pots}
use Rattle.meaning.specs.Value.{Value, integer, list, map, Items, no_items, item, Entries, no_entries, entry}
use Rattle.sources.specs.declared.pot.Pot as the_pot
use Rattle.sources.specs.declared.pot_log.LogPlace.{LogPlace}
use Rattle.sources.specs.declared.pot_log.LogPlace.TheVariants.{Log, Pots, Pot, Field}

-- the fields of a pot
abbrev pub entries_of : the_pot.Pot → Entries
entries_of p =
    entry (codes "depth") (integer (pos p.depth))
    (entry (codes "lat") (integer p.lat)
    (entry (codes "lon") (integer p.lon)
    (entry (codes "number") (integer (pos p.number))
    no_entries)))

-- the map that a pot is read as
abbrev pub value_of_pot : the_pot.Pot → Value
value_of_pot p = map (entries_of p)

-- the pots of records
abbrev pub pots_in : List (List ℕ) → Items
pots_in [] = no_items
pots_in (bytes ∷ records) = item (pot bytes) (pots_in records)

-- the map that a log of such pots is read as
abbrev pub value_of_log : Items → Value
value_of_log the_pots = map (entry (codes "pots") (list the_pots) no_entries)

-- the pots of a log's whole records
abbrev pub all_pots : List ℕ → Items
all_pots log = pots (length log / 12) log

-- the value that stands at a place of a log
abbrev pub value_at : LogPlace → Value
value_at (Log records) = value_of_log (pots_in records.now)
value_at (Pots records) = list (pots_in records.now)
value_at (Pot p) = value_of_pot p
value_at (Field n) = integer n

abbrev pub IsAt : LogPlace → Value → Type 0
IsAt place v = v ≡ value_at place
