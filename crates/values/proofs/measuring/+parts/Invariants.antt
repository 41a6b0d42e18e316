-- The levels left fall with each value inside another.
use Rattle.std.proofs.Common.{◌≡◌, ℕ, ◌+◌, ◌-◌, ◌*◌, true, length, drop}
use Rattle.meaning.specs.Charge.{cost_items, cost_entries}
use Rattle.packing.specs.Limits.{no_key}
use Rattle.packing.specs.Unpacking.{items, entries, value_within}
use Rattle.values.specs.Costs.{charge_of}
use Rattle.values.specs.Keys.{key_before}
use Rattle.values.specs.Measures.{Ends, weigh}
use Rattle.values.proofs.Sums.{after}
use Rattle.values.proofs.measuring.+parts.Given as goal

abbrev pub decreases-measure_value : goal.decreases-measure_value
decreases-measure_value l = 3 * l.levels + 2

abbrev pub decreases-measure_list : goal.decreases-measure_list
decreases-measure_list l = 3 * l.levels + 1

abbrev pub decreases-measure_items : goal.decreases-measure_items
decreases-measure_items l = 3 * l.levels + 3

abbrev pub decreases-measure_map : goal.decreases-measure_map
decreases-measure_map l = 3 * l.levels + 1

abbrev pub decreases-measure_entries : goal.decreases-measure_entries
decreases-measure_entries l = 3 * l.levels + 3

-- what is left of the items, on top of the cost so far, gives the whole answer
abbrev pub invariant-measure_items-loop-item : goal.invariant-measure_items-loop-item
invariant-measure_items-loop-item l =
    Ends l.bytes l.pos l.cost l.next
    × ((left : ℕ) × (left + l._item ≡ l.count)
    × (weigh (after cost_items (charge_of l.cost)) (items (value_within l.levels) left (drop l.next l.bytes))
    ≡ weigh cost_items (items (value_within l.levels) l.count (drop l.pos l.bytes))))

-- the same of the entries
abbrev pub invariant-measure_entries-loop-entry : goal.invariant-measure_entries-loop-entry
invariant-measure_entries-loop-entry l =
    Ends l.bytes l.pos l.cost l.next
    × ((left : ℕ) × (left + l._entry ≡ l.count)
    × (weigh (after cost_entries (charge_of l.cost)) (entries (length l.bytes - l.start) true (value_within l.levels) left (key_before l.before) (drop l.next l.bytes))
    ≡ weigh cost_entries (entries (length l.bytes - l.start) true (value_within l.levels) l.count no_key (drop l.pos l.bytes))))
