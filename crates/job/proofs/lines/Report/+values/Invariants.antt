-- The cost falls with each value inside another.
use Rattle.std.proofs.Common.{◌≡◌, ◌++◌, ◌+◌, ◌*◌}
use Rattle.meaning.specs.Charge.{cost}
use Rattle.job.specs.Stored.{outline_parts}
use Rattle.job.proofs.Parts.{parts_from}
use Rattle.store.specs.Stores.{value}
use Rattle.job.proofs.lines.Report.+values.Given as goal

abbrev pub decreases-put_stored : goal.decreases-put_stored
decreases-put_stored l = 2 * (cost (value l.store.now l.at)).cells + 1

abbrev pub decreases-put_items : goal.decreases-put_items
decreases-put_items l = 2 * (cost (value l.store.now l.list)).cells

abbrev pub decreases-put_entries : goal.decreases-put_entries
decreases-put_entries l = 2 * (cost (value l.store.now l.map)).cells

-- the parts still to come give the whole
abbrev pub invariant-put_items-loop-number : goal.invariant-put_items-loop-number
invariant-put_items-loop-number l =
    l.self ++ parts_from l.depth l.number (value l.store l.list) ≡ l.initial.self ++ outline_parts l.depth (value l.store l.list)

abbrev pub invariant-put_entries-loop-number : goal.invariant-put_entries-loop-number
invariant-put_entries-loop-number l =
    l.self ++ parts_from l.depth l.number (value l.store l.map) ≡ l.initial.self ++ outline_parts l.depth (value l.store l.map)
