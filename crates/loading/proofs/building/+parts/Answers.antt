use Rattle.std.proofs.Common.{◌≡◌, suc, ◌-◌, length, drop, ap, ◌∙◌, arith}
use Rattle.meaning.specs.Charge.{one_cell, cell_and_text}
use Rattle.meaning.specs.Value.{list, map, no_items, no_entries}
use Rattle.packing.specs.Limits.{no_key, the_key}
use Rattle.packing.specs.Unpacking.{value_within}
use Rattle.store.specs.Kinds.{kind_of}
use Rattle.store.specs.Stores.{value}
use Rattle.store.specs.Values.{pushed, inserted}
use Rattle.store.proofs.Stores.{made_over, over_itself, over_trans}
use Rattle.values.proofs.Starts.{value_list, value_map, value_plain}
use Rattle.loading.proofs.Parts.{byte_cut, not_made, plain_on, reads_as, was_made}
use Rattle.loading.proofs.Wholes.{items_on, items_no_value, items_no_cell, items_done, list_cut, list_deep, list_on, list_no_cell, entries_on, entries_no_value, entries_no_cell, entries_cut, entries_done, map_cut, map_deep, map_on, map_no_cell, pushed_kind, inserted_kind}
use Rattle.loading.proofs.building.+parts.Goals as goal

-- VALUES

pub build_value-returns-in_err-byte-clause-reads : goal.build_value-returns-in_err-byte-clause-reads
build_value-returns-in_err-byte-clause-reads t c =
    byte_cut c.args.store.now c.args.store.now c.args.bytes.now c.args.pos c.args.levels _ c.in_err-byte.ensures.same

pub build_value-returns-in-38-clause-reads : goal.build_value-returns-in-38-clause-reads
build_value-returns-in-38-clause-reads t c =
    reads_as _ _ c.args.bytes.now _ (value_list c.args.bytes.now c.args.pos c.args.levels _ c.in_ok-byte.next c.in_ok-byte.ensures.same c.in-38.is)
    (c.build_list.ensures.reads (length c.args.bytes.now - c.args.pos))

pub build_value-returns-in-39-clause-reads : goal.build_value-returns-in-39-clause-reads
build_value-returns-in-39-clause-reads t c =
    reads_as _ _ c.args.bytes.now _ (value_map c.args.bytes.now c.args.pos c.args.levels _ c.in_ok-byte.next c.in_ok-byte.ensures.same c.in-39.is)
    (c.build_map.ensures.reads (length c.args.bytes.now - c.args.pos))

pub build_value-returns-in_default-clause-reads : goal.build_value-returns-in_default-clause-reads
build_value-returns-in_default-clause-reads t c =
    reads_as _ _ c.args.bytes.now _ (value_plain c.args.bytes.now c.args.pos c.args.levels _ c.in_ok-byte.next c.in_ok-byte.ensures.same (λ e. omega arith) (λ e. omega arith))
    (plain_on _ _ c.args.levels (drop c.args.pos c.args.bytes.now) c.args.bytes.now _ c.build_plain.ensures.reads)

-- LISTS

pub build_list-returns-in_err-count-clause-reads : goal.build_list-returns-in_err-count-clause-reads
build_list-returns-in_err-count-clause-reads t c at =
    list_cut c.args.store.now c.args.store.now c.args.levels at (drop c.args.pos c.args.bytes.now) c.args.bytes.now _ (c.in_err-count.ensures.same at)

pub build_list-returns-in_err-below-clause-reads : goal.build_list-returns-in_err-below-clause-reads
build_list-returns-in_err-below-clause-reads t c at =
    list_deep c.args.store.now c.args.store.now c.args.levels at _ (drop c.args.pos c.args.bytes.now) _ c.args.bytes.now _ (c.in_ok-count.ensures.same at) (omega (arith, c.in_err-below.ensures))

pub build_list-returns-in_err-empty-clause-reads : goal.build_list-returns-in_err-empty-clause-reads
build_list-returns-in_err-empty-clause-reads t c at =
    let less = c.in_ok-below.ensures in
    rw c.from_residual-in_err-empty.ensures
    (list_no_cell c.args.store.now c.args.store.now c.empty_list.new.self c.args.levels at c.in_ok-below.below _ (drop c.args.pos c.args.bytes.now) _ c.args.bytes.now (omega arith) (c.in_ok-count.ensures.same at)
    (not_made c.args.store.now c.empty_list.new.self one_cell (list no_items) _ c.in_err-empty.ensures.value c.empty_list.ensures))

pub build_list-returns-clause-reads : goal.build_list-returns-clause-reads
build_list-returns-clause-reads t c at =
    let less = c.in_ok-below.ensures in
    let made = was_made c.args.store.now c.empty_list.new.self one_cell (list no_items) _ _ c.in_ok-empty.ensures.value c.empty_list.ensures in
    list_on c.args.store.now c.empty_list.new.self c.build_items.new.store c.args.levels at c.in_ok-below.below _ (drop c.args.pos c.args.bytes.now) _ c.args.bytes.now (omega arith) (c.in_ok-count.ensures.same at)
    c.in_ok-empty.empty _ made c.build_items.ensures.reads

pub build_list-returns-clause-over : goal.build_list-returns-clause-over
build_list-returns-clause-over t c =
    over_trans c.args.store.now c.empty_list.new.self c.build_items.new.store (made_over c.args.store.now c.empty_list.new.self one_cell (list no_items) _ c.empty_list.ensures) c.build_items.ensures.over

pub build_items-loop-item-init : goal.build_items-loop-item-init
build_items-loop-item-init t c =
    (over_itself c.args.store.now, c.requires.list_known, c.requires.is_list, (c.args.count, omega arith, λ s r h. h))

pub build_items-returns-in_err-part-clause-reads : goal.build_items-returns-in_err-part-clause-reads
build_items-returns-in_err-part-clause-reads t c =
    let inv = c.loop-item.invariant in
    let left = inv.3.0 in
    let counts = inv.3.1 in
    let some : left ≡ suc (left - 1) = omega arith in
    rw c.from_residual.ensures
    (inv.3.2 _ _ (items_no_value c.loop-item.store c.build_value.new.store (value_within c.args.levels) left (left - 1) (drop c.loop-item.next c.args.bytes.now) c.args.bytes.now some _ _ c.in_err-part.ensures.reads))

pub build_items-returns-in_err-part-clause-over : goal.build_items-returns-in_err-part-clause-over
build_items-returns-in_err-part-clause-over t c =
    over_trans c.args.store.now c.loop-item.store c.build_value.new.store c.loop-item.invariant.0 c.build_value.ensures.over

pub build_items-returns-in_err-whole-clause-reads : goal.build_items-returns-in_err-whole-clause-reads
build_items-returns-in_err-whole-clause-reads t c =
    let inv = c.loop-item.invariant in
    let left = inv.3.0 in
    let counts = inv.3.1 in
    let some : left ≡ suc (left - 1) = omega arith in
    let b = c.build_value.new.store in
    rw c.from_residual-in_err-whole.ensures
    (inv.3.2 _ _ (items_no_cell c.loop-item.store b (value_within c.args.levels) left (left - 1) (drop c.loop-item.next c.args.bytes.now) c.args.bytes.now some _ _ c.in_ok-part.part c.in_ok-part.end c.in_ok-part.ensures.reads
    (not_made b c.push.new.self one_cell _ _ c.in_err-whole.ensures.value c.push.ensures)))

pub build_items-returns-in_err-whole-clause-over : goal.build_items-returns-in_err-whole-clause-over
build_items-returns-in_err-whole-clause-over t c =
    let b = c.build_value.new.store in
    over_trans c.args.store.now b c.push.new.self (over_trans c.args.store.now c.loop-item.store b c.loop-item.invariant.0 c.build_value.ensures.over)
    (made_over b c.push.new.self one_cell _ _ c.push.ensures)

pub build_items-loop-item-preserved : goal.build_items-loop-item-preserved
build_items-loop-item-preserved t c =
    let here = c.loop-item in
    let inv = here.invariant in
    let left = inv.3.0 in
    let counts = inv.3.1 in
    let some : left ≡ suc (left - 1) = omega arith in
    let b = c.build_value.new.store in
    let d = c.push.new.self in
    let over = c.build_value.ensures.over in
    let made = was_made b d one_cell (pushed (value b here.whole) (value b c.in_ok-part.part)) c.in_ok-whole.whole _ c.in_ok-whole.ensures.value c.push.ensures in (
      over_trans c.args.store.now b d (over_trans c.args.store.now here.store b inv.0 over) made.grown.over,
      made.known,
      ap kind_of made.means ∙ pushed_kind _ _ (ap kind_of (over.keeps here.whole inv.1) ∙ inv.2),
      (left - 1, omega arith, λ s r h. inv.3.2 s r (items_on here.store b (value_within c.args.levels) left (left - 1) (drop here.next c.args.bytes.now) c.args.bytes.now some d s here.whole c.in_ok-whole.whole c.in_ok-part.part c.in_ok-part.end r c.in_ok-part.ensures.reads inv.1 made h)),
    )

pub build_items-returns-clause-reads : goal.build_items-returns-clause-reads
build_items-returns-clause-reads t c =
    let here = c.loop-item in
    let inv = here.invariant in
    let left = inv.3.0 in
    let counts = inv.3.1 in
    let end : left ≡ 0 = omega arith in
    inv.3.2 _ _ (items_done here.store (value_within c.args.levels) left c.args.bytes.now here.next here.whole end inv.1)

-- MAPS

pub build_map-returns-in_err-count-clause-reads : goal.build_map-returns-in_err-count-clause-reads
build_map-returns-in_err-count-clause-reads t c at =
    map_cut c.args.store.now c.args.store.now c.args.levels at (drop c.args.pos c.args.bytes.now) c.args.bytes.now _ (c.in_err-count.ensures.same at)

pub build_map-returns-in_err-below-clause-reads : goal.build_map-returns-in_err-below-clause-reads
build_map-returns-in_err-below-clause-reads t c at =
    map_deep c.args.store.now c.args.store.now c.args.levels at _ (drop c.args.pos c.args.bytes.now) _ c.args.bytes.now _ (c.in_ok-count.ensures.same at) (omega (arith, c.in_err-below.ensures))

pub build_map-returns-in_err-empty-clause-reads : goal.build_map-returns-in_err-empty-clause-reads
build_map-returns-in_err-empty-clause-reads t c at =
    let less = c.in_ok-below.ensures in
    rw c.from_residual-in_err-empty.ensures
    (map_no_cell c.args.store.now c.args.store.now c.empty_map.new.self c.args.levels at c.in_ok-below.below _ (drop c.args.pos c.args.bytes.now) _ c.args.bytes.now (omega arith) (c.in_ok-count.ensures.same at)
    (not_made c.args.store.now c.empty_map.new.self one_cell (map no_entries) _ c.in_err-empty.ensures.value c.empty_map.ensures))

pub build_map-returns-clause-reads : goal.build_map-returns-clause-reads
build_map-returns-clause-reads t c at =
    let less = c.in_ok-below.ensures in
    let made = was_made c.args.store.now c.empty_map.new.self one_cell (map no_entries) _ _ c.in_ok-empty.ensures.value c.empty_map.ensures in
    map_on c.args.store.now c.empty_map.new.self c.build_entries.new.store c.args.levels at c.in_ok-below.below _ (drop c.args.pos c.args.bytes.now) _ c.args.bytes.now (omega arith) (c.in_ok-count.ensures.same at)
    c.in_ok-empty.empty _ made (c.build_entries.ensures.reads at)

pub build_map-returns-clause-over : goal.build_map-returns-clause-over
build_map-returns-clause-over t c =
    over_trans c.args.store.now c.empty_map.new.self c.build_entries.new.store (made_over c.args.store.now c.empty_map.new.self one_cell (map no_entries) _ c.empty_map.ensures) c.build_entries.ensures.over

pub build_entries-loop-entry-init : goal.build_entries-loop-entry-init
build_entries-loop-entry-init t c =
    (over_itself c.args.store.now, c.requires.map_known, c.requires.is_map, (c.args.count, omega arith, (no_key, λ at s r h. h)))

pub build_entries-returns-in_err-key-clause-reads : goal.build_entries-returns-in_err-key-clause-reads
build_entries-returns-in_err-key-clause-reads t c at =
    let inv = c.loop-entry.invariant in
    let left = inv.3.0 in
    let counts = inv.3.1 in
    let some : left ≡ suc (left - 1) = omega arith in
    inv.3.2.1 at _ _ (entries_cut c.loop-entry.store c.loop-entry.store at (value_within c.args.levels) left (left - 1) inv.3.2.0 (drop c.loop-entry.next c.args.bytes.now) c.args.bytes.now _ _ some (c.in_err-key.ensures.same at))

pub build_entries-returns-in_err-part-clause-reads : goal.build_entries-returns-in_err-part-clause-reads
build_entries-returns-in_err-part-clause-reads t c at =
    let inv = c.loop-entry.invariant in
    let left = inv.3.0 in
    let counts = inv.3.1 in
    let some : left ≡ suc (left - 1) = omega arith in
    rw c.from_residual-in_err-part.ensures
    (inv.3.2.1 at _ _ (entries_no_value c.loop-entry.store c.build_value.new.store at (value_within c.args.levels) left (left - 1) inv.3.2.0 (drop c.loop-entry.next c.args.bytes.now) c.args.bytes.now _ _ some (c.in_ok-key.ensures.same at) _ _ c.in_err-part.ensures.reads))

pub build_entries-returns-in_err-part-clause-over : goal.build_entries-returns-in_err-part-clause-over
build_entries-returns-in_err-part-clause-over t c =
    over_trans c.args.store.now c.loop-entry.store c.build_value.new.store c.loop-entry.invariant.0 c.build_value.ensures.over

pub build_entries-returns-in_err-whole-clause-reads : goal.build_entries-returns-in_err-whole-clause-reads
build_entries-returns-in_err-whole-clause-reads t c at =
    let inv = c.loop-entry.invariant in
    let left = inv.3.0 in
    let counts = inv.3.1 in
    let some : left ≡ suc (left - 1) = omega arith in
    let b = c.build_value.new.store in
    rw c.from_residual-in_err-whole.ensures
    (inv.3.2.1 at _ _ (entries_no_cell c.loop-entry.store b at (value_within c.args.levels) left (left - 1) inv.3.2.0 (drop c.loop-entry.next c.args.bytes.now) c.args.bytes.now _ _ some (c.in_ok-key.ensures.same at) _ _ c.in_ok-part.part c.in_ok-part.end c.in_ok-part.ensures.reads
    (not_made b c.insert.new.self (cell_and_text c.in_ok-key.key.now) _ _ c.in_err-whole.ensures.value c.insert.ensures)))

pub build_entries-returns-in_err-whole-clause-over : goal.build_entries-returns-in_err-whole-clause-over
build_entries-returns-in_err-whole-clause-over t c =
    let b = c.build_value.new.store in
    over_trans c.args.store.now b c.insert.new.self (over_trans c.args.store.now c.loop-entry.store b c.loop-entry.invariant.0 c.build_value.ensures.over)
    (made_over b c.insert.new.self (cell_and_text c.in_ok-key.key.now) _ _ c.insert.ensures)

pub build_entries-loop-entry-preserved : goal.build_entries-loop-entry-preserved
build_entries-loop-entry-preserved t c =
    let here = c.loop-entry in
    let inv = here.invariant in
    let left = inv.3.0 in
    let counts = inv.3.1 in
    let some : left ≡ suc (left - 1) = omega arith in
    let b = c.build_value.new.store in
    let d = c.insert.new.self in
    let key = c.in_ok-key.key.now in
    let over = c.build_value.ensures.over in
    let made = was_made b d (cell_and_text key) (inserted (value b here.whole) key (value b c.in_ok-part.part)) c.in_ok-whole.whole _ c.in_ok-whole.ensures.value c.insert.ensures in (
      over_trans c.args.store.now b d (over_trans c.args.store.now here.store b inv.0 over) made.grown.over,
      made.known,
      ap kind_of made.means ∙ inserted_kind _ _ _ (ap kind_of (over.keeps here.whole inv.1) ∙ inv.2),
      (left - 1, omega arith, (the_key key, λ at s r h. inv.3.2.1 at s r (entries_on here.store b at (value_within c.args.levels) left (left - 1) inv.3.2.0 (drop here.next c.args.bytes.now) c.args.bytes.now key _ some (c.in_ok-key.ensures.same at) d s here.whole c.in_ok-whole.whole c.in_ok-part.part c.in_ok-part.end r c.in_ok-part.ensures.reads inv.1 made h))),
    )

pub build_entries-returns-clause-reads : goal.build_entries-returns-clause-reads
build_entries-returns-clause-reads t c at =
    let here = c.loop-entry in
    let inv = here.invariant in
    let left = inv.3.0 in
    let counts = inv.3.1 in
    let end : left ≡ 0 = omega arith in
    inv.3.2.1 at _ _ (entries_done here.store at (value_within c.args.levels) left inv.3.2.0 c.args.bytes.now here.next here.whole end inv.1)
