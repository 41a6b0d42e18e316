use Rattle.std.proofs.Common.{◌∙◌, refl, arith}
use Rattle.compiler.proofs.Rows.{scope_start, scope_due, scope_all, stmt_over, scope_more}
use Rattle.compiler.proofs.StmtArms.{block_expr, block_scope, if_block, with_block, loop_block, choice_block, else_scope, raw_arm, include_arm, inline_arm, include_with_arm, if_arm, if_else_arm, with_arm, loop_arm, item_loop, pair_loop, item_arm, pair_arm}
use Rattle.compiler.proofs.writing.Compiler.+statements.Goals as goal

pub compile_loop-compile_expr-iterable-requires-clause-there : goal.compile_loop-compile_expr-iterable-requires-clause-there
compile_loop-compile_expr-iterable-requires-clause-there t c = block_expr (loop_block c.requires.there)

pub compile_loop-compile_scope-end-requires : goal.compile_loop-compile_scope-end-requires
compile_loop-compile_scope-end-requires t c =
    (omega arith, (record { short = c.requires.room.short; fewer = omega arith }, block_scope (loop_block c.requires.there) c.compile_expr-iterable.ensures.made))

pub compile_loop-returns-clause-made : goal.compile_loop-returns-clause-made
compile_loop-returns-clause-made t c =
    loop_arm c.compile_expr-iterable.ensures.made c.plain.ensures c.push.ensures.pushed c.jump.ensures c.push-next.ensures.number c.push-next.ensures.pushed c.compile_scope-end.ensures.made c.jump-2.ensures c.push-2.ensures.pushed c.update_jump.ensures.patched

pub compile_scope-loop-command-init : goal.compile_scope-loop-command-init
compile_scope-loop-command-init t c =
    let within = c.requires.there.there.stands.within in
    (refl, record { within = omega arith; counts = omega arith; room = omega arith }, λ w. scope_start w)

pub compile_scope-unreachable-requires : goal.compile_scope-unreachable-requires
compile_scope-unreachable-requires t c = let w = c.requires.there in scope_due w (c.loop-command.invariant.2 w) c.in_default.ensures.same

pub compile_scope-returns-in-End-clause-made : goal.compile_scope-returns-in-End-clause-made
compile_scope-returns-in-End-clause-made t c = λ w. scope_all w (c.loop-command.invariant.2 w) _ c.in-Some.ensures.moves c.in-Some.ensures.same c.in-End.is

pub compile_scope-compile_stmt-at-requires : goal.compile_scope-compile_stmt-at-requires
compile_scope-compile_stmt-at-requires t c =
    let w = c.requires.there in
    let moves = c.in-Some.ensures.moves in
    let along = moves.0 in
    let inside = moves.1 in
    (omega arith, (record { short = c.requires.room.short; fewer = omega arith }, stmt_over w (c.loop-command.invariant.2 w) _ moves c.in-Some.ensures.same c.in-Stmt.is))

pub compile_scope-loop-command-preserved : goal.compile_scope-loop-command-preserved
compile_scope-loop-command-preserved t c = (
  c.compile_stmt-at.ensures.lender ∙ c.loop-command.invariant.0,
  record { within = omega arith; counts = omega arith; room = omega arith },
  λ w. scope_more w (c.loop-command.invariant.2 w) _ c.in-Some.ensures.moves c.in-Some.ensures.same c.in-Stmt.is c.compile_stmt-at.ensures.made,
)

pub compile_stmt-compile_expr-cond-requires-clause-there : goal.compile_stmt-compile_expr-cond-requires-clause-there
compile_stmt-compile_expr-cond-requires-clause-there t c = block_expr (if_block c.in-If.is c.requires.there)

pub compile_stmt-compile_scope-end-requires : goal.compile_stmt-compile_scope-end-requires
compile_stmt-compile_scope-end-requires t c =
    let along = c.requires.there.there.along in
    (omega arith, (record { short = c.requires.room.short; fewer = omega arith }, block_scope (if_block c.in-If.is c.requires.there) c.compile_expr-cond.ensures.made))

pub compile_stmt-compile_expr-cond-requires-in-IfElse-clause-there : goal.compile_stmt-compile_expr-cond-requires-in-IfElse-clause-there
compile_stmt-compile_expr-cond-requires-in-IfElse-clause-there t c = block_expr (choice_block c.in-IfElse.is c.requires.there)

pub compile_stmt-compile_scope-then_end-requires : goal.compile_stmt-compile_scope-then_end-requires
compile_stmt-compile_scope-then_end-requires t c =
    let along = c.requires.there.there.along in
    (omega arith, (record { short = c.requires.room.short; fewer = omega arith }, block_scope (choice_block c.in-IfElse.is c.requires.there) c.compile_expr-cond-in-IfElse.ensures.made))

pub compile_stmt-compile_scope-else_end-requires : goal.compile_stmt-compile_scope-else_end-requires
compile_stmt-compile_scope-else_end-requires t c =
    let along = c.requires.there.there.along in
    (omega arith, (record { short = c.requires.room.short; fewer = omega arith }, else_scope c.in-IfElse.is c.requires.there c.compile_expr-cond-in-IfElse.ensures.made c.compile_scope-then_end.ensures.made))

pub compile_stmt-compile_loop-requires : goal.compile_stmt-compile_loop-requires
compile_stmt-compile_loop-requires t c = (omega arith, (c.requires.room, item_loop c.in-ForItem.is c.requires.there))

pub compile_stmt-compile_loop-requires-in-ForPair : goal.compile_stmt-compile_loop-requires-in-ForPair
compile_stmt-compile_loop-requires-in-ForPair t c = (omega arith, (c.requires.room, pair_loop c.in-ForPair.is c.requires.there))

pub compile_stmt-compile_expr-expr-requires-in-With-clause-there : goal.compile_stmt-compile_expr-expr-requires-in-With-clause-there
compile_stmt-compile_expr-expr-requires-in-With-clause-there t c = block_expr (with_block c.in-With.is c.requires.there)

pub compile_stmt-compile_scope-with_end-requires : goal.compile_stmt-compile_scope-with_end-requires
compile_stmt-compile_scope-with_end-requires t c =
    let along = c.requires.there.there.along in
    (omega arith, (record { short = c.requires.room.short; fewer = omega arith }, block_scope (with_block c.in-With.is c.requires.there) c.compile_expr-expr-in-With.ensures.made))

pub compile_stmt-returns-in-Raw-clause-made : goal.compile_stmt-returns-in-Raw-clause-made
compile_stmt-returns-in-Raw-clause-made t c = raw_arm c.in-Raw.is c.plain.ensures c.push.ensures.pushed

pub compile_stmt-returns-in-Inline-clause-made : goal.compile_stmt-returns-in-Inline-clause-made
compile_stmt-returns-in-Inline-clause-made t c = inline_arm c.compile_expr-expr.ensures.made c.in-Inline.is c.pop_emit_expr.ensures.made

pub compile_stmt-returns-in-Include-clause-made : goal.compile_stmt-returns-in-Include-clause-made
compile_stmt-returns-in-Include-clause-made t c = include_arm c.in-Include.is c.plain-in-Include.ensures c.push-in-Include.ensures.pushed

pub compile_stmt-returns-in-IncludeWith-clause-made : goal.compile_stmt-returns-in-IncludeWith-clause-made
compile_stmt-returns-in-IncludeWith-clause-made t c = include_with_arm c.compile_expr-globals.ensures.made c.in-IncludeWith.is c.plain-in-IncludeWith.ensures c.push-in-IncludeWith.ensures.pushed

pub compile_stmt-returns-in-If-clause-made : goal.compile_stmt-returns-in-If-clause-made
compile_stmt-returns-in-If-clause-made t c =
    if_arm c.compile_expr-cond.ensures.made c.in-If.is c.jump_past.ensures c.jump.ensures c.push-past.ensures.number c.push-past.ensures.pushed c.compile_scope-end.ensures.made c.update_jump.ensures.patched

pub compile_stmt-returns-in-IfElse-clause-made : goal.compile_stmt-returns-in-IfElse-clause-made
compile_stmt-returns-in-IfElse-clause-made t c =
    if_else_arm c.compile_expr-cond-in-IfElse.ensures.made c.in-IfElse.is c.jump_past-in-IfElse.ensures c.jump-in-IfElse.ensures c.push-past-in-IfElse.ensures.number c.push-past-in-IfElse.ensures.pushed c.compile_scope-then_end.ensures.made
    c.jump-in-IfElse-2.ensures c.push-over.ensures.number c.push-over.ensures.pushed c.compile_scope-else_end.ensures.made c.update_jump-in-IfElse.ensures.patched c.update_jump-in-IfElse-2.ensures.patched

pub compile_stmt-returns-in-ForItem-clause-made : goal.compile_stmt-returns-in-ForItem-clause-made
compile_stmt-returns-in-ForItem-clause-made t c = item_arm c.compile_loop.ensures.made c.in-ForItem.is

pub compile_stmt-returns-in-ForPair-clause-made : goal.compile_stmt-returns-in-ForPair-clause-made
compile_stmt-returns-in-ForPair-clause-made t c = pair_arm c.compile_loop-in-ForPair.ensures.made c.in-ForPair.is

pub compile_stmt-returns-in-With-clause-made : goal.compile_stmt-returns-in-With-clause-made
compile_stmt-returns-in-With-clause-made t c =
    with_arm c.compile_expr-expr-in-With.ensures.made c.in-With.is c.plain-in-With.ensures c.push-in-With.ensures.pushed c.compile_scope-with_end.ensures.made c.plain-in-With-2.ensures c.push-in-With-2.ensures.pushed
