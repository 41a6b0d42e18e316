-- Which values are false, and what indexes and keys find.
use Rattle.std.specs.Prelude.{◌≡◌, ℕ, ◌^◌, ◌≤◌, ◌↔◌, false, List, [], ◌∷◌, pos}
use Rattle.std.specs.List.{Contains}
use Rattle.meaning.specs.declared.tree.AccessOp.{AccessOp}
use Rattle.meaning.specs.declared.tree.AccessOp.TheVariants.{Direct, Optional}
use Rattle.meaning.specs.declared.tree.Member.{Member}
use Rattle.meaning.specs.declared.fault.Cause.{Cause}
use Rattle.meaning.specs.declared.fault.Cause.TheVariants.{NoSuchKey, NoSuchIndex}
use Rattle.meaning.specs.Value.{Value, none, boolean, integer, float, string, list, map, Items, no_items, item, Entries, no_entries, entry, Text}
use Rattle.meaning.specs.Parts.{count_items, truth}
use Rattle.meaning.specs.Walk.{index, key, found, missed, failed, part_at}

-- TRUTH

-- both float zeros are there, by their bits
abbrev pub false_values : List Value
false_values =
    none ∷ boolean false ∷ integer (pos 0) ∷ float 0 ∷ float (2 ^ 63) ∷ string [] ∷ list no_items ∷ map no_entries ∷ []

-- these values are false, and no others
abbrev pub OnlyTheseAreFalse : Type 0
OnlyTheseAreFalse = (v : Value) → (truth v ≡ false) ↔ Contains false_values v

-- ITEMS

-- some items, and behind them others
infixr 30 ◌before◌
abbrev pub ◌before◌ : Items → Items → Items
no_items before second = second
(item v first) before second = item v (first before second)

-- a part with so many others before it
pub record StandsAt (items : Items) (n : ℕ) (v : Value) : Type 0 where
  pub first : Items
  pub behind : Items
  pub whole : items ≡ first before item v behind
  pub number : count_items first ≡ n

-- an index finds the part of that number and no other, and nothing where a list has no more than that
pub record FindsByNumber (m : Member) (items : Items) (n : ℕ) : Type 0 where
  pub there : (op : AccessOp) (v : Value) → (part_at m op (list items) (index n) ≡ found v) ↔ StandsAt items n v
  pub not_there : (part_at m Direct (list items) (index n) ≡ failed m NoSuchIndex (count_items items)) ↔ (count_items items ≤ n)
  pub missing : (part_at m Optional (list items) (index n) ≡ missed) ↔ (count_items items ≤ n)

abbrev pub IndexesFindTheirPart : Type 0
IndexesFindTheirPart = (m : Member) (items : Items) (n : ℕ) → FindsByNumber m items n

-- ENTRIES

-- some entries, and behind them others
infixr 30 ◌in_front_of◌
abbrev pub ◌in_front_of◌ : Entries → Entries → Entries
no_entries in_front_of second = second
(entry k v first) in_front_of second = entry k v (first in_front_of second)

-- no entry has that key: each has another list of bytes
abbrev pub Lacks : Entries → Text → Type 0
Lacks no_entries k = Unit {0}
Lacks (entry other v entries) k = ¬ (other ≡ k) × Lacks entries k

-- a part under a key, which no entry before it has
pub record StandsUnder (entries : Entries) (k : Text) (v : Value) : Type 0 where
  pub first : Entries
  pub behind : Entries
  pub whole : entries ≡ first in_front_of entry k v behind
  pub lacks : Lacks first k

-- a key finds the part under just that key and no other, and nothing where no entry has it
pub record FindsByKey (m : Member) (entries : Entries) (k : Text) : Type 0 where
  pub there : (op : AccessOp) (v : Value) → (part_at m op (map entries) (key k) ≡ found v) ↔ StandsUnder entries k v
  pub not_there : (part_at m Direct (map entries) (key k) ≡ failed m NoSuchKey 0) ↔ Lacks entries k
  pub missing : (part_at m Optional (map entries) (key k) ≡ missed) ↔ Lacks entries k

abbrev pub KeysFindTheirPart : Type 0
KeysFindTheirPart = (m : Member) (entries : Entries) (k : Text) → FindsByKey m entries k

-- an optional member faults neither by an index of a list nor by a key of a map
pub record NeverFaults (m : Member) : Type 0 where
  pub by_index : (items : Items) (n : ℕ) (at : Member) (cause : Cause) (detail : ℕ) → ¬ (part_at m Optional (list items) (index n) ≡ failed at cause detail)
  pub by_key : (entries : Entries) (k : Text) (at : Member) (cause : Cause) (detail : ℕ) → ¬ (part_at m Optional (map entries) (key k) ≡ failed at cause detail)

abbrev pub OptionalNeverFaults : Type 0
OptionalNeverFaults = (m : Member) → NeverFaults m
