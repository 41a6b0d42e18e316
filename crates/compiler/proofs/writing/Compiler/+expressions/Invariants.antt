use Rattle.std.proofs.Common.{◌≡◌, ◌+◌, ◌-◌, ◌*◌, length}
use Rattle.program.specs.Program.{compile_args, compile_items}
use Rattle.checker.specs.There.{ArgsThere, PairsThere}
use Rattle.compiler.specs.Compiled.{Ahead, Over}
use Rattle.compiler.proofs.Rows.{ArgsLeft, PairsLeft}
use Rattle.compiler.proofs.writing.Compiler.+expressions.Given as goal

-- the bytes left, and then a rank where a call does not move on
abbrev pub decreases-compile_args : goal.decreases-compile_args
decreases-compile_args l = 3 * (length l.tree.now - l.pos) + 1

abbrev pub decreases-compile_base_expr : goal.decreases-compile_base_expr
decreases-compile_base_expr l = 3 * (length l.tree.now - l.pos)

abbrev pub decreases-compile_behind : goal.decreases-compile_behind
decreases-compile_behind l = 3 * (length l.tree.now - l.pos) + 2

abbrev pub decreases-compile_expr : goal.decreases-compile_expr
decreases-compile_expr l = 3 * (length l.tree.now - l.pos)

abbrev pub decreases-compile_items : goal.decreases-compile_items
decreases-compile_items l = 3 * (length l.tree.now - l.pos) + 1

abbrev pub decreases-compile_pairs : goal.decreases-compile_pairs
decreases-compile_pairs l = 3 * (length l.tree.now - l.pos) + 1

-- with what is left it gives the whole
abbrev pub invariant-compile_args-loop-arg : goal.invariant-compile_args-loop-arg
invariant-compile_args-loop-arg l =
    (l.self.instrs.ghost_name ≡ l.initial.self.instrs.ghost_name) × Ahead l.tree l.pos l.initial.self.len l.at l.self.len
    × ((w : Over (λ s. ArgsThere s l.tree l.count l.pos)) → ArgsLeft compile_args w l.initial.self l._arg l.at l.self)

abbrev pub invariant-compile_items-loop-item : goal.invariant-compile_items-loop-item
invariant-compile_items-loop-item l =
    (l.self.instrs.ghost_name ≡ l.initial.self.instrs.ghost_name) × Ahead l.tree l.pos l.initial.self.len l.at l.self.len
    × ((w : Over (λ s. ArgsThere s l.tree l.count l.pos)) → ArgsLeft compile_items w l.initial.self l._item l.at l.self)

abbrev pub invariant-compile_pairs-loop-pair : goal.invariant-compile_pairs-loop-pair
invariant-compile_pairs-loop-pair l =
    (l.self.instrs.ghost_name ≡ l.initial.self.instrs.ghost_name) × Ahead l.tree l.pos l.initial.self.len l.at l.self.len
    × ((w : Over (λ s. PairsThere s l.tree l.count l.pos)) → PairsLeft w l.initial.self l._pair l.at l.self)
