use Rattle.std.proofs.Common.{◌≡◌, ◌+◌, ◌-◌, ◌*◌, length}
use Rattle.checker.specs.There.{ScopeThere}
use Rattle.compiler.specs.Compiled.{Ahead, Over}
use Rattle.compiler.proofs.Rows.{ScopeLeft}
use Rattle.compiler.proofs.writing.Compiler.+statements.Given as goal

-- the bytes left, and then a rank where a call does not move on
abbrev pub decreases-compile_scope : goal.decreases-compile_scope
decreases-compile_scope l = 3 * (length l.tree.now - l.pos)

abbrev pub decreases-compile_loop : goal.decreases-compile_loop
decreases-compile_loop l = 3 * (length l.tree.now - l.pos) + 1

abbrev pub decreases-compile_stmt : goal.decreases-compile_stmt
decreases-compile_stmt l = 3 * (length l.tree.now - l.pos) + 2

-- with what is left it gives the whole
abbrev pub invariant-compile_scope-loop-command : goal.invariant-compile_scope-loop-command
invariant-compile_scope-loop-command l =
    (l.self.instrs.ghost_name ≡ l.initial.self.instrs.ghost_name) × Ahead l.tree l.pos l.initial.self.len l.at l.self.len
    × ((w : Over (λ s. ScopeThere s l.tree l.pos)) → ScopeLeft w l.initial.self l.at l.self)

abbrev pub decreases-compile_scope-loop-command : goal.decreases-compile_scope-loop-command
decreases-compile_scope-loop-command l = length l.tree - l.at
