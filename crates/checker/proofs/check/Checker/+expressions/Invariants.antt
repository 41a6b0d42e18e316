-- The levels left fall with each expression inside another.
use Rattle.std.proofs.Common.{◌≡◌, ◌+◌, ◌-◌, ◌*◌, ◌≤◌, true, [], length, drop}
use Rattle.packing.specs.Unpacking.{args, base_within, pairs}
use Rattle.reader.specs.Fields.{ended}
use Rattle.checker.specs.Rests.{from_first}
use Rattle.checker.proofs.check.Checker.+expressions.Given as goal

abbrev pub decreases-check_expr : goal.decreases-check_expr
decreases-check_expr l = 3 * l.levels

abbrev pub decreases-check_base : goal.decreases-check_base
decreases-check_base l = 3 * l.levels

abbrev pub decreases-check_args : goal.decreases-check_args
decreases-check_args l = 3 * l.levels + 1

abbrev pub decreases-check_pairs : goal.decreases-check_pairs
decreases-check_pairs l = 3 * l.levels + 1

abbrev pub decreases-check_inside : goal.decreases-check_inside
decreases-check_inside l = 3 * l.levels + 2

-- what is left of the arguments gives the whole answer
abbrev pub invariant-check_args-loop-arg : goal.invariant-check_args-loop-arg
invariant-check_args-loop-arg l =
    let base = base_within l.self.source.now l.levels in
    let tree = l.self.tree.now in
    (l.pos ≤ l.at)
    × (l.at ≤ length tree)
    × (ended (args base (l.count - l._arg) (drop l.at tree)) ≡ ended (args base l.count (drop l.pos tree)))

-- what is left of the pairs gives the whole answer
abbrev pub invariant-check_pairs-loop-pair : goal.invariant-check_pairs-loop-pair
invariant-check_pairs-loop-pair l =
    let base = base_within l.self.source.now l.levels in
    let tree = l.self.tree.now in
    let at = length tree - l.start in
    (l.pos ≤ l.at)
    × (l.at ≤ length tree)
    × (ended (pairs l.self.source.now at true base (l.more - l._pair) [] (drop l.at tree))
    ≡ ended (from_first l.self.source.now at true base l.more (drop l.pos tree)))
