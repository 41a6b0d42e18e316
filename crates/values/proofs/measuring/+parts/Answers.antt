use Rattle.std.proofs.Common.{◌≡◌, suc, ◌-◌, length, ap, ◌∙◌, arith}
use Rattle.std.proofs.lemmas.Result.{err_from_is_err_and}
use Rattle.meaning.specs.Charge.{cost, cost_items, cost_entries}
use Rattle.packing.specs.Unpacking.{value_within}
use Rattle.values.specs.Costs.{charge_of}
use Rattle.values.specs.Keys.{key_before}
use Rattle.values.specs.Measures.{weigh}
use Rattle.values.proofs.Sums.{after, from_nothing, part_ends}
use Rattle.values.proofs.Exits.{refused_with}
use Rattle.values.proofs.Starts.{value_cut, value_list, value_map, value_plain}
use Rattle.values.proofs.Lists.{items_more, items_stop, items_end, list_cut, list_too_deep, list_stops, list_costs}
use Rattle.values.proofs.Maps.{entries_cut, entries_stop, entries_more, entries_end, map_cut, map_too_deep, map_stops, map_costs}
use Rattle.values.proofs.measuring.+parts.Goals as goal

-- VALUES

pub measure_value-returns-in_err-byte-clause-same : goal.measure_value-returns-in_err-byte-clause-same
measure_value-returns-in_err-byte-clause-same t c =
    let none = c.in_err-byte.ensures in
    let read = rw none.ok_part at c.read_byte.ensures in
    rw (refused_with c.from_residual.result c.from_residual.ensures.1 none.value none.ok_part)
    (value_cut c.args.bytes.now c.args.pos c.args.levels read.same)

pub measure_value-returns-in-38-clause-same : goal.measure_value-returns-in-38-clause-same
measure_value-returns-in-38-clause-same t c =
    let read = rw c.in_ok-byte.ensures.ok_part at c.read_byte.ensures in
    c.measure_list.ensures.same ∙ ap (weigh cost) (value_list c.args.bytes.now c.args.pos c.args.levels _ c.in_ok-byte.next read.same c.in-38.is)

pub measure_value-returns-in-39-clause-same : goal.measure_value-returns-in-39-clause-same
measure_value-returns-in-39-clause-same t c =
    let read = rw c.in_ok-byte.ensures.ok_part at c.read_byte.ensures in
    c.measure_map.ensures.same ∙ ap (weigh cost) (value_map c.args.bytes.now c.args.pos c.args.levels _ c.in_ok-byte.next read.same c.in-39.is)

pub measure_value-returns-in_default-clause-same : goal.measure_value-returns-in_default-clause-same
measure_value-returns-in_default-clause-same t c =
    let read = rw c.in_ok-byte.ensures.ok_part at c.read_byte.ensures in
    c.measure_plain.ensures.same ∙ ap (weigh cost) (value_plain c.args.bytes.now c.args.pos c.args.levels _ c.in_ok-byte.next read.same (λ e. omega arith) (λ e. omega arith))

-- LISTS

pub measure_list-returns-in_err-count-clause-same : goal.measure_list-returns-in_err-count-clause-same
measure_list-returns-in_err-count-clause-same t c =
    let none = c.in_err-count.ensures in
    let read = rw none.ok_part at c.read_u16.ensures in
    rw (refused_with c.from_residual.result c.from_residual.ensures.1 none.value none.ok_part)
    (list_cut c.args.levels (length c.args.bytes.now - c.args.start) _ (read.same _))

pub measure_list-returns-in_err-below-clause-same : goal.measure_list-returns-in_err-below-clause-same
measure_list-returns-in_err-below-clause-same t c =
    let read = rw c.in_ok-count.ensures.ok_part at c.read_u16.ensures in
    let none = c.in_err-below.ensures in
    let zero = rw none.ok_part at c.checked_sub.ensures in
    rw (refused_with c.from_residual-in_err-below.result c.from_residual-in_err-below.ensures.1 none.value none.ok_part)
    (list_too_deep c.args.levels (length c.args.bytes.now - c.args.start) _ _ _ (read.same _) (omega (arith, zero)))

pub measure_list-returns-in_err-cost-clause-same : goal.measure_list-returns-in_err-cost-clause-same
measure_list-returns-in_err-cost-clause-same t c =
    let read = rw c.in_ok-count.ensures.ok_part at c.read_u16.ensures in
    let less = rw c.in_ok-below.ensures.ok_part at c.checked_sub.ensures in
    let some : c.args.levels ≡ suc c.in_ok-below.below = omega (arith, less) in
    let p = err_from_is_err_and c.from_residual-in_err-cost.result c.from_residual-in_err-cost.ensures.1 in
    rw (p.1, p.2)
    (list_stops c.args.levels (length c.args.bytes.now - c.args.start) _ _ _ (read.same _) c.in_ok-below.below some _ _ c.in_err-cost.ensures.same)

pub measure_list-returns-clause-same : goal.measure_list-returns-clause-same
measure_list-returns-clause-same t c =
    let read = rw c.in_ok-count.ensures.ok_part at c.read_u16.ensures in
    let less = rw c.in_ok-below.ensures.ok_part at c.checked_sub.ensures in
    let some : c.args.levels ≡ suc c.in_ok-below.below = omega (arith, less) in
    list_costs c.args.levels (length c.args.bytes.now - c.args.start) _ _ _ (read.same _) c.in_ok-below.below some c.in_ok-cost.cost _ c.in_ok-cost.ensures.same

pub measure_items-loop-item-init : goal.measure_items-loop-item-init
measure_items-loop-item-init t c =
    (record { inside = omega arith; values = omega arith; parts = omega arith; text = omega arith }, (c.args.count, omega arith, from_nothing cost_items _))

pub measure_items-returns-in_err-part-clause-same : goal.measure_items-returns-in_err-part-clause-same
measure_items-returns-in_err-part-clause-same t c =
    let left = c.loop-item.invariant.1.0 in
    let counts = c.loop-item.invariant.1.1 in
    let some : left ≡ suc (left - 1) = omega arith in
    let p = err_from_is_err_and c.from_residual.result c.from_residual.ensures.1 in
    rw (p.1, p.2)
    (items_stop (value_within c.args.levels) left (left - 1) _ some (after cost_items (charge_of c.loop-item.cost)) _ _ c.in_err-part.ensures.same ∙ c.loop-item.invariant.1.2)

pub measure_items-loop-item-preserved : goal.measure_items-loop-item-preserved
measure_items-loop-item-preserved t c =
    let left = c.loop-item.invariant.1.0 in
    let counts = c.loop-item.invariant.1.1 in
    let some : left ≡ suc (left - 1) = omega arith in
    let moves = c.in_ok-part.ensures.moves in
    let sum = c.with_part-cost.ensures in (
      part_ends 0 c.loop-item.invariant.0 (omega arith) moves.0 moves.1 sum,
      (
        left - 1,
        omega arith,
        items_more (value_within c.args.levels) left (left - 1) _ some c.loop-item.cost c.in_ok-part.part _ _ c.in_ok-part.ensures.same sum ∙ c.loop-item.invariant.1.2,
      ),
    )

pub measure_items-returns-clause-same : goal.measure_items-returns-clause-same
measure_items-returns-clause-same t c =
    let left = c.loop-item.invariant.1.0 in
    let counts = c.loop-item.invariant.1.1 in
    let end : left ≡ 0 = omega arith in
    items_end (value_within c.args.levels) left (charge_of c.loop-item.cost) _ end ∙ c.loop-item.invariant.1.2

-- MAPS

pub measure_map-returns-in_err-count-clause-same : goal.measure_map-returns-in_err-count-clause-same
measure_map-returns-in_err-count-clause-same t c =
    let none = c.in_err-count.ensures in
    let read = rw none.ok_part at c.read_u16.ensures in
    rw (refused_with c.from_residual.result c.from_residual.ensures.1 none.value none.ok_part)
    (map_cut c.args.levels (length c.args.bytes.now - c.args.start) _ (read.same _))

pub measure_map-returns-in_default-clause-same : goal.measure_map-returns-in_default-clause-same
measure_map-returns-in_default-clause-same t c =
    let read = rw c.in_ok-count.ensures.ok_part at c.read_u16.ensures in
    let zero = c.in_default.ensures in
    map_too_deep c.args.levels (length c.args.bytes.now - c.args.start) _ _ _ (read.same _) (omega (arith, zero)) _ _ c.refuse_map.ensures.same

pub measure_map-returns-in_err-cost-clause-same : goal.measure_map-returns-in_err-cost-clause-same
measure_map-returns-in_err-cost-clause-same t c =
    let read = rw c.in_ok-count.ensures.ok_part at c.read_u16.ensures in
    let less = c.in-Some.ensures in
    let some : c.args.levels ≡ suc c.in-Some.below = omega (arith, less) in
    let p = err_from_is_err_and c.from_residual-in_err-cost.result c.from_residual-in_err-cost.ensures.1 in
    rw (p.1, p.2)
    (map_stops c.args.levels (length c.args.bytes.now - c.args.start) _ _ _ (read.same _) c.in-Some.below some _ _ c.in_err-cost.ensures.same)

pub measure_map-returns-clause-same : goal.measure_map-returns-clause-same
measure_map-returns-clause-same t c =
    let read = rw c.in_ok-count.ensures.ok_part at c.read_u16.ensures in
    let less = c.in-Some.ensures in
    let some : c.args.levels ≡ suc c.in-Some.below = omega (arith, less) in
    map_costs c.args.levels (length c.args.bytes.now - c.args.start) _ _ _ (read.same _) c.in-Some.below some c.in_ok-cost.cost _ c.in_ok-cost.ensures.same

pub measure_entries-loop-entry-init : goal.measure_entries-loop-entry-init
measure_entries-loop-entry-init t c =
    (record { inside = omega arith; values = omega arith; parts = omega arith; text = omega arith }, (c.args.count, omega arith, from_nothing cost_entries _))

pub measure_entries-returns-in_err-key-clause-same : goal.measure_entries-returns-in_err-key-clause-same
measure_entries-returns-in_err-key-clause-same t c =
    let left = c.loop-entry.invariant.1.0 in
    let counts = c.loop-entry.invariant.1.1 in
    let some : left ≡ suc (left - 1) = omega arith in
    let none = c.in_err-key.ensures in
    let read = rw none.ok_part at c.read_key.ensures in
    rw (refused_with c.from_residual.result c.from_residual.ensures.1 none.value none.ok_part)
    (entries_cut (length c.args.bytes.now - c.args.start) (value_within c.args.levels) left (left - 1) (key_before c.loop-entry.before) _ some (after cost_entries (charge_of c.loop-entry.cost)) (read.same _) ∙ c.loop-entry.invariant.1.2)

pub measure_entries-returns-in_err-part-clause-same : goal.measure_entries-returns-in_err-part-clause-same
measure_entries-returns-in_err-part-clause-same t c =
    let read = rw c.in_ok-key.ensures.ok_part at c.read_key.ensures in
    let left = c.loop-entry.invariant.1.0 in
    let counts = c.loop-entry.invariant.1.1 in
    let some : left ≡ suc (left - 1) = omega arith in
    let p = err_from_is_err_and c.from_residual-in_err-part.result c.from_residual-in_err-part.ensures.1 in
    rw (p.1, p.2)
    (entries_stop (length c.args.bytes.now - c.args.start) (value_within c.args.levels) left (left - 1) (key_before c.loop-entry.before) _ some _ _ (read.same _) (after cost_entries (charge_of c.loop-entry.cost)) _ _ c.in_err-part.ensures.same
    ∙ c.loop-entry.invariant.1.2)

pub measure_entries-loop-entry-preserved : goal.measure_entries-loop-entry-preserved
measure_entries-loop-entry-preserved t c =
    let read = rw c.in_ok-key.ensures.ok_part at c.read_key.ensures in
    let left = c.loop-entry.invariant.1.0 in
    let counts = c.loop-entry.invariant.1.1 in
    let some : left ≡ suc (left - 1) = omega arith in
    let moves = c.in_ok-part.ensures.moves in
    let sum = c.with_part-cost.ensures in (
      part_ends _ c.loop-entry.invariant.0 read.moves.0 moves.0 moves.1 sum,
      (
        left - 1,
        omega arith,
        entries_more (length c.args.bytes.now - c.args.start) (value_within c.args.levels) left (left - 1) (key_before c.loop-entry.before) _ some _ _ (read.same _) c.loop-entry.cost c.in_ok-part.part _ _ c.in_ok-part.ensures.same sum
            ∙ c.loop-entry.invariant.1.2,
      ),
    )

pub measure_entries-returns-clause-same : goal.measure_entries-returns-clause-same
measure_entries-returns-clause-same t c =
    let left = c.loop-entry.invariant.1.0 in
    let counts = c.loop-entry.invariant.1.1 in
    let end : left ≡ 0 = omega arith in
    entries_end (length c.args.bytes.now - c.args.start) (value_within c.args.levels) left (key_before c.loop-entry.before) (charge_of c.loop-entry.cost) _ end ∙ c.loop-entry.invariant.1.2
