-- The levels left fall with each block inside another, and the bytes left with each statement.
use Rattle.std.proofs.Common.{◌≡◌, ◌+◌, ◌-◌, ◌*◌, ◌≤◌, length, drop}
use Rattle.packing.specs.Unpacking.{scope_within}
use Rattle.reader.specs.Fields.{ended}
use Rattle.checker.proofs.check.Checker.+statements.Given as goal

abbrev pub decreases-check_block : goal.decreases-check_block
decreases-check_block l = 8 * l.levels + 4

abbrev pub decreases-check_scope : goal.decreases-check_scope
decreases-check_scope l = 8 * l.levels + 3

abbrev pub decreases-check_stmt : goal.decreases-check_stmt
decreases-check_stmt l = 8 * l.levels + 2

abbrev pub decreases-check_nested : goal.decreases-check_nested
decreases-check_nested l = 8 * l.levels + 1

abbrev pub decreases-check_branches : goal.decreases-check_branches
decreases-check_branches l = 8 * l.levels + 1

-- what is left of the scope gives the whole answer
abbrev pub invariant-check_scope-loop-command : goal.invariant-check_scope-loop-command
invariant-check_scope-loop-command l =
    (l.pos ≤ l.at)
    × (l.at ≤ length l.self.tree.now)
    × (ended (scope_within l.self.source.now l.levels (drop l.at l.self.tree.now)) ≡ ended (scope_within l.self.source.now l.levels (drop l.pos l.self.tree.now)))

abbrev pub decreases-check_scope-loop-command : goal.decreases-check_scope-loop-command
decreases-check_scope-loop-command l = length l.self.tree.now - l.at
