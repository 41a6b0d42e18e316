use Rattle.std.proofs.Common.{◌+◌, ◌-◌, ◌*◌, ◌≤◌, length}
use Rattle.packing.specs.Packing.{pack_args, pack_pairs}
use Rattle.checker.specs.There.{ArgsThere, PairsThere}
use Rattle.job.proofs.Rows.{ArgsLeft, PairsLeft}
use Rattle.job.proofs.outline.Walk.+expressions.Given as goal

-- the bytes left, and then a rank where a call does not move on
abbrev pub decreases-bases : goal.decreases-bases
decreases-bases l = 3 * (length l.self.now.tree.now - l.pos) + 1

abbrev pub decreases-base : goal.decreases-base
decreases-base l = 3 * (length l.self.now.tree.now - l.pos)

abbrev pub decreases-behind : goal.decreases-behind
decreases-behind l = 3 * (length l.self.now.tree.now - l.pos) + 2

abbrev pub decreases-expr : goal.decreases-expr
decreases-expr l = 3 * (length l.self.now.tree.now - l.pos)

abbrev pub decreases-pairs : goal.decreases-pairs
decreases-pairs l = 3 * (length l.self.now.tree.now - l.pos) + 1

-- what is left gives the whole
abbrev pub invariant-bases-loop-arg : goal.invariant-bases-loop-arg
invariant-bases-loop-arg l =
    (l.initial.at ≤ l.at)
    × ((w : ArgsThere l.self.source.now l.self.tree.now l.count l.initial.at)
    → ArgsLeft l.self.source.now l.self.tree.now l.depth w.args (l.initial.at + length (pack_args w.args)) l.initial.report (l.count - l._arg) l.at l.report)

abbrev pub invariant-pairs-loop-pair : goal.invariant-pairs-loop-pair
invariant-pairs-loop-pair l =
    (l.initial.at ≤ l.at)
    × ((w : PairsThere l.self.source.now l.self.tree.now l.count l.initial.at)
    → PairsLeft l.self.source.now l.self.tree.now l.depth w.pairs (l.initial.at + length (pack_pairs w.pairs)) l.initial.report (l.count - l._pair) l.at l.report)
