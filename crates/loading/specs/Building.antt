-- What building answers, by what the bytes read as.
use Rattle.std.specs.Prelude.{◌≡◌, ℕ, false, drop, Some, None, Option}
use Rattle.meaning.specs.Charge.{Charge, ◌⊕◌, cost, cost_items, cost_entries, within}
use Rattle.meaning.specs.Or.{fails, gives}
use Rattle.meaning.specs.Value.{Value, Items, no_items, item, Entries, no_entries, entry, Text}
use Rattle.packing.specs.Reader.{Outcome}
use Rattle.store.specs.Stores.{Added, Known, supply, used}
use Rattle.store.specs.Values.{pushed, inserted}
use Rattle.store.specs.declared.cell.Ref.{Ref}
use Rattle.store.specs.declared.memory.Store.{Store}

-- a value was built for just that charge, and the bytes after it are left; or the charge passes the supply
abbrev pub Builds : Store → Store → Charge → Value → Text → Text → Option (Ref × ℕ) → Type 0
Builds before after more v rest bytes (Some r) = Added before after more v r.0 × (rest ≡ drop r.1 bytes)
Builds before after more v rest bytes None = within (supply before) (used before ⊕ more) ≡ false

-- what was read, by what it costs and what it makes; nothing is said of bytes that are refused
abbrev pub BuildsRead : {A : Type 0} → (A → Charge) → (A → Value) → Store → Store → Outcome A → Text → Option (Ref × ℕ) → Type 0
BuildsRead price make before after (gives (a, rest)) bytes r = Builds before after (price a) (make a) rest bytes r
BuildsRead price make before after (fails refusal) bytes r = Unit {0}

abbrev pub as_it_is : Value → Value
as_it_is v = v

abbrev pub BuildsValue : Store → Store → Outcome Value → Text → Option (Ref × ℕ) → Type 0
BuildsValue = BuildsRead cost as_it_is

-- a list with further items, and a map with further entries, one after another
abbrev pub all_pushed : Value → Items → Value
all_pushed v no_items = v
all_pushed v (item w ws) = all_pushed (pushed v w) ws

abbrev pub all_inserted : Value → Entries → Value
all_inserted v no_entries = v
all_inserted v (entry k w es) = all_inserted (inserted v k w) es

abbrev pub BuildsItems : Store → Store → Value → Outcome Items → Text → Option (Ref × ℕ) → Type 0
BuildsItems before after v = BuildsRead cost_items (all_pushed v) before after

abbrev pub BuildsEntries : Store → Store → Value → Outcome Entries → Text → Option (Ref × ℕ) → Type 0
BuildsEntries before after v = BuildsRead cost_entries (all_inserted v) before after

-- what was built is in the store
abbrev pub BuiltKnown : Store → Option (Ref × ℕ) → Type 0
BuiltKnown after (Some r) = Known after r.0
BuiltKnown after None = Unit {0}
