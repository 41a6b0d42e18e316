use Rattle.std.proofs.Common.{sym, ap, ◌∙◌, arith}
use mathlib.Core.Option.{some}
use Rattle.store.specs.Stores.{value}
use Rattle.job.proofs.Parts.{entries_all, entry_cost, entry_on, entry_there, found_none, found_some, part_cost, part_on, part_there, parts_end, plain_alone, whole_wrote}
use Rattle.job.proofs.Writing.{adds_same, row_more, row_whole, then_adds}
use Rattle.job.proofs.lines.Report.+values.Goals as goal

-- A VALUE

pub put_stored-returns-in-Plain : goal.put_stored-returns-in-Plain
put_stored-returns-in-Plain t c =
    let v = value c.args.store.now c.args.at in
    record { adds = adds_same (plain_alone c.args.depth v c.show-shown.result c.show-shown.ensures c.in-Plain.field-0 c.in-Plain.is) c.in_ok-put_head_line.ensures.adds }

pub put_stored-returns-in-List : goal.put_stored-returns-in-List
put_stored-returns-in-List t c =
    whole_wrote c.args.depth (value c.args.store.now c.args.at) c.show-shown.result c.show-shown.ensures c.put_items.result c.in_ok-put_head_line.ensures.adds c.put_items.ensures

pub put_stored-returns-in-Map : goal.put_stored-returns-in-Map
put_stored-returns-in-Map t c =
    whole_wrote c.args.depth (value c.args.store.now c.args.at) c.show-shown.result c.show-shown.ensures c.put_entries.result c.in_ok-put_head_line.ensures.adds c.put_entries.ensures

-- LISTS

pub put_items-unreachable-requires : goal.put_items-unreachable-requires
put_items-unreachable-requires t c =
    part_there (value c.args.store.now c.args.list) c.loop-number.number c.args.count c.requires.is_list c.loop-number-test.true
    (found_none c.args.store.now _ c.in_default.ensures)

pub put_items-put_stored-requires : goal.put_items-put_stored-requires
put_items-put_stored-requires t c =
    let found = found_some c.args.store.now _ c.in-Some.part c.in-Some.ensures in
    let less = part_cost (value c.args.store.now c.args.list) c.loop-number.number c.args.count c.requires.is_list _ found.1 in
    let shallow = c.requires.shallow in
    (omega arith, (found.0, omega arith))

pub put_items-loop-number-preserved : goal.put_items-loop-number-preserved
put_items-loop-number-preserved t c =
    let found = found_some c.args.store.now _ c.in-Some.part c.in-Some.ensures in
    row_more _ _ _ _ _ _ (part_on (value c.args.store.now c.args.list) c.loop-number.number c.args.count c.requires.is_list c.args.depth _ found.1)
    c.in_ok-put_stored.ensures.adds c.loop-number.invariant

pub put_items-returns : goal.put_items-returns
put_items-returns t c =
    record { adds = row_whole _ _ _ _ (parts_end (value c.args.store.now c.args.list) c.loop-number.number c.args.count c.requires.is_list c.args.depth c.loop-number-test.false) c.loop-number.invariant }

-- MAPS

pub put_entries-unreachable-requires : goal.put_entries-unreachable-requires
put_entries-unreachable-requires t c =
    entry_there (value c.args.store.now c.args.map) c.loop-number.number c.args.count c.requires.is_map c.loop-number-test.true (sym c.in_default.ensures.same)

pub put_entries-overflow_add-depth : goal.put_entries-overflow_add-depth
put_entries-overflow_add-depth t c =
    let less = entry_cost (value c.args.store.now c.args.map) c.loop-number.number c.args.count c.requires.is_map _ (value c.args.store.now c.in-Some.entry.value) (sym c.in-Some.ensures.same) in
    let shallow = c.requires.shallow in
    omega arith

pub put_entries-put_stored-requires : goal.put_entries-put_stored-requires
put_entries-put_stored-requires t c =
    let less = entry_cost (value c.args.store.now c.args.map) c.loop-number.number c.args.count c.requires.is_map _ (value c.args.store.now c.in-Some.entry.value) (sym c.in-Some.ensures.same) in
    let shallow = c.requires.shallow in
    (omega arith, (c.in-Some.ensures.known.1, omega arith))

pub put_entries-loop-number-preserved : goal.put_entries-loop-number-preserved
put_entries-loop-number-preserved t c =
    let part = value c.args.store.now c.in-Some.entry.value in
    let is = sym c.in-Some.ensures.same ∙ ap (λ k. some (k, part)) (sym c.text_at.ensures) in
    row_more _ _ _ _ _ _ (entry_on (value c.args.store.now c.args.map) c.loop-number.number c.args.count c.requires.is_map c.args.depth c.text_at.result.now part is)
    (then_adds c.in_ok-put_key_line.ensures.adds c.in_ok-put_stored.ensures.adds) c.loop-number.invariant

pub put_entries-returns : goal.put_entries-returns
put_entries-returns t c =
    record { adds = row_whole _ _ _ _ (entries_all (value c.args.store.now c.args.map) c.loop-number.number c.args.count c.requires.is_map c.args.depth c.loop-number-test.false) c.loop-number.invariant }
