use Rattle.std.proofs.Common.{◌+◌, ◌-◌, ◌*◌, ◌≤◌, length}
use Rattle.packing.specs.Packing.{pack}
use Rattle.checker.specs.There.{ScopeThere}
use Rattle.job.proofs.Rows.{ScopeLeft}
use Rattle.job.proofs.outline.Walk.+statements.Given as goal

-- the bytes left, and then a rank where a call does not move on
abbrev pub decreases-scope : goal.decreases-scope
decreases-scope l = 3 * (length l.self.now.tree.now - l.pos)

abbrev pub decreases-nested : goal.decreases-nested
decreases-nested l = 3 * (length l.self.now.tree.now - l.pos) + 1

abbrev pub decreases-stmt : goal.decreases-stmt
decreases-stmt l = 3 * (length l.self.now.tree.now - l.pos) + 2

-- what is left gives the whole
abbrev pub invariant-scope-loop-command : goal.invariant-scope-loop-command
invariant-scope-loop-command l =
    (l.initial.at ≤ l.at)
    × ((w : ScopeThere l.self.source.now l.self.tree.now l.initial.at)
    → ScopeLeft l.self.source.now l.self.tree.now l.depth w.scope (l.initial.at + length (pack w.scope)) l.initial.report l.at l.report)

abbrev pub decreases-scope-loop-command : goal.decreases-scope-loop-command
decreases-scope-loop-command l = length l.self.tree.now - l.at
