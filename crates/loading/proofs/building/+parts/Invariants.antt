-- The levels left fall with each value inside another.
use Rattle.std.proofs.Common.{◌≡◌, ℕ, ◌+◌, ◌*◌, true, drop, Option}
use Rattle.packing.specs.Limits.{Before, no_key}
use Rattle.packing.specs.Unpacking.{entries, items, value_within}
use Rattle.store.specs.Kinds.{kind_of}
use Rattle.store.specs.Stores.{Known, Over, value}
use Rattle.store.specs.declared.cell.Ref.{Ref}
use Rattle.store.specs.declared.kinds.Kind.{Kind}
use Rattle.store.specs.declared.memory.Store.{Store}
use Rattle.loading.specs.Building.{BuildsEntries, BuildsItems}
use Rattle.loading.proofs.building.+parts.Given as goal

abbrev pub decreases-build_value : goal.decreases-build_value
decreases-build_value l = 3 * l.levels + 2

abbrev pub decreases-build_list : goal.decreases-build_list
decreases-build_list l = 3 * l.levels + 1

abbrev pub decreases-build_items : goal.decreases-build_items
decreases-build_items l = 3 * l.levels + 3

abbrev pub decreases-build_map : goal.decreases-build_map
decreases-build_map l = 3 * l.levels + 1

abbrev pub decreases-build_entries : goal.decreases-build_entries
decreases-build_entries l = 3 * l.levels + 3

-- what builds the rest from here onto the list so far builds the whole
abbrev pub invariant-build_items-loop-item : goal.invariant-build_items-loop-item
invariant-build_items-loop-item l =
    Over l.initial.store l.store
    × Known l.store l.whole
    × (kind_of (value l.store l.whole) ≡ Kind.List)
    × ((left : ℕ) × (left + l._item ≡ l.count)
    × ((s : Store) (r : Option (Ref × ℕ)) → BuildsItems l.store s (value l.store l.whole) (items (value_within l.levels) left (drop l.next l.bytes)) l.bytes r
    → BuildsItems l.initial.store s (value l.initial.store l.initial.whole) (items (value_within l.levels) l.count (drop l.initial.next l.bytes)) l.bytes r))

-- the same of the entries
abbrev pub invariant-build_entries-loop-entry : goal.invariant-build_entries-loop-entry
invariant-build_entries-loop-entry l =
    Over l.initial.store l.store
    × Known l.store l.whole
    × (kind_of (value l.store l.whole) ≡ Kind.Map)
    × ((left : ℕ) × (left + l._entry ≡ l.count)
    × ((before : Before) × ((at : ℕ) (s : Store) (r : Option (Ref × ℕ)) → BuildsEntries l.store s (value l.store l.whole) (entries at true (value_within l.levels) left before (drop l.next l.bytes)) l.bytes r
    → BuildsEntries l.initial.store s (value l.initial.store l.initial.whole) (entries at true (value_within l.levels) l.count no_key (drop l.initial.next l.bytes)) l.bytes r)))
