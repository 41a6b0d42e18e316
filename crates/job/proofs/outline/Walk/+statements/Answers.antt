use Rattle.std.proofs.Common.{◌++◌, sym, ap, subst, arith, length-append}
use Rattle.packing.specs.Packing.{pack_expr, pack}
use Rattle.reader.specs.Heads.{RawHead, InlineHead, IncludeHead, IncludeWithHead, IfHead, IfElseHead, ForItemHead, ForPairHead, WithHead, StmtOf, EndHead}
use Rattle.reader.specs.Fields.{text_of}
use Rattle.reader.specs.Meanings.{stmt_of, scope_of}
use Rattle.checker.specs.There.{Stands, ScopeThere}
use Rattle.checker.proofs.There.{first_part, second_part, three_stand}
use Rattle.checker.proofs.Walking.{scope_known}
use Rattle.job.specs.Lines.{label_line}
use Rattle.job.specs.Outline.{outline_stmt}
use Rattle.job.proofs.Arms.{outlined_end, outlined_then, scope_next, stmt_there, stmt_arm}
use Rattle.job.proofs.Rows.{scope_more, scope_all}
use Rattle.job.proofs.Writing.{then_adds, adds_same}
use Rattle.job.proofs.outline.Walk.+statements.Goals as goal

pub nested-expr-requires : goal.nested-expr-requires
nested-expr-requires t c =
    let first = first_part c.args.self.now.tree.now c.args.pos (pack_expr c.requires.there.expr) (pack c.requires.there.scope) c.requires.there.stands in
    let second = second_part c.args.self.now.tree.now c.args.pos (pack_expr c.requires.there.expr) (pack c.requires.there.scope) c.requires.there.stands in
    record { shallow = omega arith; there = record { expr = c.requires.there.expr; fits = c.requires.there.expr_fits; stands = first } }

pub nested-scope-requires : goal.nested-scope-requires
nested-scope-requires t c =
    let first = first_part c.args.self.now.tree.now c.args.pos (pack_expr c.requires.there.expr) (pack c.requires.there.scope) c.requires.there.stands in
    let second = second_part c.args.self.now.tree.now c.args.pos (pack_expr c.requires.there.expr) (pack c.requires.there.scope) c.requires.there.stands in
    let moved = (c.in_ok-after.ensures (record { expr = c.requires.there.expr; fits = c.requires.there.expr_fits; stands = first })).ends in
    (omega arith, (omega arith, record { scope = c.requires.there.scope; fits = c.requires.there.scope_fits; stands = subst (λ k. Stands c.args.self.now.tree.now k (pack c.requires.there.scope)) (sym moved) second }))

pub nested-returns : goal.nested-returns
nested-returns t c =
    λ w.
    let first = first_part c.args.self.now.tree.now c.args.pos (pack_expr w.expr) (pack w.scope) w.stands in
    let second = second_part c.args.self.now.tree.now c.args.pos (pack_expr w.expr) (pack w.scope) w.stands in
    let expr = c.in_ok-after.ensures (record { expr = w.expr; fits = w.expr_fits; stands = first }) in
    let moved = expr.ends in
    outlined_end _ (omega arith)
    (outlined_then _ (then_adds expr.wrote.adds c.in_ok-put_label_line.ensures.adds) (c.scope.ensures (record { scope = w.scope; fits = w.scope_fits; stands = subst (λ k. Stands c.args.self.now.tree.now k (pack w.scope)) (sym moved) second })))

pub scope-unreachable-requires : goal.scope-unreachable-requires
scope-unreachable-requires t c =
    let left = c.loop-command.invariant.1 c.requires.there in
    let there : ScopeThere c.args.self.now.source.now c.args.self.now.tree.now c.loop-command.at = record { scope = left.rest; fits = left.fits; stands = left.stands } in
    scope_known c.args.self.now.source.now c.args.self.now.tree.now c.loop-command.at c.args.self.now.source_short there c.in_default.ensures.same

pub scope-returns-in-End : goal.scope-returns-in-End
scope-returns-in-End t c =
    λ w.
    let left = c.loop-command.invariant.1 w in
    let next = scope_next c.args.self.now.source_short left _ _ c.in-Some.ensures.moves.1 c.in-Some.ensures.same EndHead (ap scope_of c.in-End.is) in
    let ends = next.0 in
    let parts = next.1 in
    let all = scope_all c.args.self.now.source.now c.args.self.now.tree.now c.args.depth _ _ w.scope c.loop-command.at c.in-Some.next _ left parts ends in
    record { wrote = record { adds = all.1 }; ends = all.0 }

pub scope-stmt-requires : goal.scope-stmt-requires
scope-stmt-requires t c =
    let left = c.loop-command.invariant.1 c.requires.there in
    let moves = c.in-Some.ensures.moves in
    let next = scope_next c.args.self.now.source_short left _ _ moves.1 c.in-Some.ensures.same (StmtOf (stmt_of c.in-Stmt.stmt)) (ap scope_of c.in-Stmt.is) in
    let ends = next.0 in
    let parts = next.1 in
    (omega arith, (omega arith, record { stmt = parts.0; headed = parts.3; fits = parts.4; stands = parts.6.0 }))

pub scope-loop-command-smaller : goal.scope-loop-command-smaller
scope-loop-command-smaller t c =
    let left = c.loop-command.invariant.1 c.requires.there in
    let moves = c.in-Some.ensures.moves in
    let next = scope_next c.args.self.now.source_short left _ _ moves.1 c.in-Some.ensures.same (StmtOf (stmt_of c.in-Stmt.stmt)) (ap scope_of c.in-Stmt.is) in
    let ends = next.0 in
    let parts = next.1 in
    let moved = (c.in_ok-at-in-Stmt.ensures (record { stmt = parts.0; headed = parts.3; fits = parts.4; stands = parts.6.0 })).ends in
    let within = parts.6.1.within in
    omega arith

pub scope-loop-command-preserved : goal.scope-loop-command-preserved
scope-loop-command-preserved t c =
    let left = c.loop-command.invariant.1 c.requires.there in
    let moves = c.in-Some.ensures.moves in
    let next = scope_next c.args.self.now.source_short left _ _ moves.1 c.in-Some.ensures.same (StmtOf (stmt_of c.in-Stmt.stmt)) (ap scope_of c.in-Stmt.is) in
    let ends = next.0 in
    let parts = next.1 in
    let moved = (c.in_ok-at-in-Stmt.ensures (record { stmt = parts.0; headed = parts.3; fits = parts.4; stands = parts.6.0 })).ends in (
      omega arith,
      λ w.
          let left = c.loop-command.invariant.1 w in
          let next = scope_next c.args.self.now.source_short left _ _ c.in-Some.ensures.moves.1 c.in-Some.ensures.same (StmtOf (stmt_of c.in-Stmt.stmt)) (ap scope_of c.in-Stmt.is) in
          let ends = next.0 in
          let parts = next.1 in
          let done = c.in_ok-at-in-Stmt.ensures (record { stmt = parts.0; headed = parts.3; fits = parts.4; stands = parts.6.0 }) in
          scope_more c.args.self.now.source.now c.args.self.now.tree.now c.args.depth _ _ w.scope c.loop-command.at c.in-Some.next c.in_ok-at-in-Stmt.at _ _ left ends parts.0 parts.1 parts.2 parts.5 parts.6.1 done.ends done.wrote.adds,
    )

pub stmt-expr-requires : goal.stmt-expr-requires
stmt-expr-requires t c =
    let parts = stmt_there c.requires.there InlineHead (ap stmt_of c.in-Inline.is) in
    record { shallow = omega arith; there = record { expr = parts.0; fits = parts.2; stands = parts.3 } }

pub stmt-expr-requires-in-IncludeWith : goal.stmt-expr-requires-in-IncludeWith
stmt-expr-requires-in-IncludeWith t c =
    let parts = stmt_there c.requires.there (IncludeWithHead (text_of c.in-IncludeWith.name)) (ap stmt_of c.in-IncludeWith.is) in
    record { shallow = omega arith; there = record { expr = parts.0; fits = parts.3; stands = parts.4 } }

pub stmt-nested-requires : goal.stmt-nested-requires
stmt-nested-requires t c =
    let parts = stmt_there c.requires.there (IfHead c.in-If.negated) (ap stmt_of c.in-If.is) in
    (omega arith, (omega arith, record { expr = parts.0; scope = parts.1; expr_fits = parts.3.0; scope_fits = parts.3.1; stands = parts.3.2 }))

pub stmt-nested-requires-in-IfElse : goal.stmt-nested-requires-in-IfElse
stmt-nested-requires-in-IfElse t c =
    let parts = stmt_there c.requires.there (IfElseHead c.in-IfElse.negated) (ap stmt_of c.in-IfElse.is) in
    let stand = three_stand c.args.self.now.tree.now c.args.pos (pack_expr parts.0) (pack parts.1) (pack parts.2) parts.7 in
    (omega arith, (omega arith, record { expr = parts.0; scope = parts.1; expr_fits = parts.4; scope_fits = parts.5; stands = stand.0 }))

pub stmt-scope-requires : goal.stmt-scope-requires
stmt-scope-requires t c =
    let parts = stmt_there c.requires.there (IfElseHead c.in-IfElse.negated) (ap stmt_of c.in-IfElse.is) in
    let stand = three_stand c.args.self.now.tree.now c.args.pos (pack_expr parts.0) (pack parts.1) (pack parts.2) parts.7 in
    let moved = (c.in_ok-after-in-IfElse.ensures (record { expr = parts.0; scope = parts.1; expr_fits = parts.4; scope_fits = parts.5; stands = stand.0 })).ends in
    (omega arith, (omega arith, record { scope = parts.2; fits = parts.6; stands = subst (λ k. Stands c.args.self.now.tree.now k (pack parts.2)) (sym moved) stand.1 }))

pub stmt-nested-requires-in-ForItem : goal.stmt-nested-requires-in-ForItem
stmt-nested-requires-in-ForItem t c =
    let parts = stmt_there c.requires.there (ForItemHead c.in-ForItem.span) (ap stmt_of c.in-ForItem.is) in
    (omega arith, (omega arith, record { expr = parts.0; scope = parts.1; expr_fits = parts.4.0; scope_fits = parts.4.1; stands = parts.4.2 }))

pub stmt-nested-requires-in-ForPair : goal.stmt-nested-requires-in-ForPair
stmt-nested-requires-in-ForPair t c =
    let parts = stmt_there c.requires.there (ForPairHead c.in-ForPair.key c.in-ForPair.value c.in-ForPair.field-2) (ap stmt_of c.in-ForPair.is) in
    (omega arith, (omega arith, record { expr = parts.0; scope = parts.1; expr_fits = parts.6.0; scope_fits = parts.6.1; stands = parts.6.2 }))

pub stmt-nested-requires-in-With : goal.stmt-nested-requires-in-With
stmt-nested-requires-in-With t c =
    let parts = stmt_there c.requires.there (WithHead c.in-With.span) (ap stmt_of c.in-With.is) in
    (omega arith, (omega arith, record { expr = parts.0; scope = parts.1; expr_fits = parts.4.0; scope_fits = parts.4.1; stands = parts.4.2 }))

pub stmt-returns-in_ok-put_span_line-in-Raw : goal.stmt-returns-in_ok-put_span_line-in-Raw
unfolding outline_stmt
stmt-returns-in_ok-put_span_line-in-Raw t c =
    λ w.
    let parts = stmt_there w (RawHead c.in-Raw.span) (ap stmt_of c.in-Raw.is) in
    stmt_arm c.args.self.now.source.now c.args.depth _ _ _ c.args.pos w.stmt _ parts.0
    (record { wrote = record { adds = c.in_ok-put_span_line-in-Raw.ensures.adds }; ends = omega arith })

pub stmt-returns-in_ok-put_label_line-in-Inline : goal.stmt-returns-in_ok-put_label_line-in-Inline
unfolding outline_stmt
stmt-returns-in_ok-put_label_line-in-Inline t c =
    λ w.
    let parts = stmt_there w InlineHead (ap stmt_of c.in-Inline.is) in
    stmt_arm c.args.self.now.source.now c.args.depth _ _ _ c.args.pos w.stmt _ parts.1
    (outlined_then _ c.in_ok-put_label_line-in-Inline.ensures.adds (c.expr.ensures (record { expr = parts.0; fits = parts.2; stands = parts.3 })))

pub stmt-returns-in_ok-put_string_line-in-Include : goal.stmt-returns-in_ok-put_string_line-in-Include
unfolding outline_stmt
stmt-returns-in_ok-put_string_line-in-Include t c =
    λ w.
    let parts = stmt_there w (IncludeHead (text_of c.in-Include.name)) (ap stmt_of c.in-Include.is) in
    stmt_arm c.args.self.now.source.now c.args.depth _ _ _ c.args.pos w.stmt _ parts.0
    (record { wrote = record { adds = c.in_ok-put_string_line-in-Include.ensures.adds }; ends = omega arith })

pub stmt-returns-in_ok-put_string_line-in-IncludeWith : goal.stmt-returns-in_ok-put_string_line-in-IncludeWith
unfolding outline_stmt
stmt-returns-in_ok-put_string_line-in-IncludeWith t c =
    λ w.
    let parts = stmt_there w (IncludeWithHead (text_of c.in-IncludeWith.name)) (ap stmt_of c.in-IncludeWith.is) in
    stmt_arm c.args.self.now.source.now c.args.depth _ _ _ c.args.pos w.stmt _ parts.1
    (outlined_then _ c.in_ok-put_string_line-in-IncludeWith.ensures.adds (c.expr-in-IncludeWith.ensures (record { expr = parts.0; fits = parts.3; stands = parts.4 })))

pub stmt-returns-in_ok-put_label_line-in-If : goal.stmt-returns-in_ok-put_label_line-in-If
unfolding outline_stmt
stmt-returns-in_ok-put_label_line-in-If t c =
    λ w.
    let parts = stmt_there w (IfHead c.in-If.negated) (ap stmt_of c.in-If.is) in
    let size = length-append (pack_expr parts.0) (pack parts.1) in
    stmt_arm c.args.self.now.source.now c.args.depth _ _ _ c.args.pos w.stmt _ parts.2
    (outlined_end _ (omega arith) (outlined_then _ (adds_same (ap (label_line c.args.depth) c.if_label.ensures) c.in_ok-put_label_line-in-If.ensures.adds) (c.nested.ensures (record { expr = parts.0; scope = parts.1; expr_fits = parts.3.0; scope_fits = parts.3.1; stands = parts.3.2 }))))

pub stmt-returns-in_ok-put_label_line-in-IfElse-2 : goal.stmt-returns-in_ok-put_label_line-in-IfElse-2
unfolding outline_stmt
stmt-returns-in_ok-put_label_line-in-IfElse-2 t c =
    λ w.
    let parts = stmt_there w (IfElseHead c.in-IfElse.negated) (ap stmt_of c.in-IfElse.is) in
    let stand = three_stand c.args.self.now.tree.now c.args.pos (pack_expr parts.0) (pack parts.1) (pack parts.2) parts.7 in
    let first = c.in_ok-after-in-IfElse.ensures (record { expr = parts.0; scope = parts.1; expr_fits = parts.4; scope_fits = parts.5; stands = stand.0 }) in
    let moved = first.ends in
    let size = length-append (pack_expr parts.0) (pack parts.1 ++ pack parts.2) in
    let more = length-append (pack parts.1) (pack parts.2) in
    stmt_arm c.args.self.now.source.now c.args.depth _ _ _ c.args.pos w.stmt _ parts.3
    (outlined_end _ (omega arith)
    (outlined_then _ (then_adds (then_adds (adds_same (ap (label_line c.args.depth) c.if_label-in-IfElse.ensures) c.in_ok-put_label_line-in-IfElse.ensures.adds) first.wrote.adds) c.in_ok-put_label_line-in-IfElse-2.ensures.adds)
    (c.scope.ensures (record { scope = parts.2; fits = parts.6; stands = subst (λ k. Stands c.args.self.now.tree.now k (pack parts.2)) (sym moved) stand.1 }))))

pub stmt-returns-in_ok-put_span_line-in-ForItem : goal.stmt-returns-in_ok-put_span_line-in-ForItem
unfolding outline_stmt
stmt-returns-in_ok-put_span_line-in-ForItem t c =
    λ w.
    let parts = stmt_there w (ForItemHead c.in-ForItem.span) (ap stmt_of c.in-ForItem.is) in
    let size = length-append (pack_expr parts.0) (pack parts.1) in
    stmt_arm c.args.self.now.source.now c.args.depth _ _ _ c.args.pos w.stmt _ parts.2
    (outlined_end _ (omega arith) (outlined_then _ c.in_ok-put_span_line-in-ForItem.ensures.adds (c.nested-in-ForItem.ensures (record { expr = parts.0; scope = parts.1; expr_fits = parts.4.0; scope_fits = parts.4.1; stands = parts.4.2 }))))

pub stmt-returns-in_ok-put_spans_line-in-ForPair : goal.stmt-returns-in_ok-put_spans_line-in-ForPair
unfolding outline_stmt
stmt-returns-in_ok-put_spans_line-in-ForPair t c =
    λ w.
    let parts = stmt_there w (ForPairHead c.in-ForPair.key c.in-ForPair.value c.in-ForPair.field-2) (ap stmt_of c.in-ForPair.is) in
    let size = length-append (pack_expr parts.0) (pack parts.1) in
    stmt_arm c.args.self.now.source.now c.args.depth _ _ _ c.args.pos w.stmt _ parts.2
    (outlined_end _ (omega arith) (outlined_then _ c.in_ok-put_spans_line-in-ForPair.ensures.adds (c.nested-in-ForPair.ensures (record { expr = parts.0; scope = parts.1; expr_fits = parts.6.0; scope_fits = parts.6.1; stands = parts.6.2 }))))

pub stmt-returns-in_ok-put_span_line-in-With : goal.stmt-returns-in_ok-put_span_line-in-With
unfolding outline_stmt
stmt-returns-in_ok-put_span_line-in-With t c =
    λ w.
    let parts = stmt_there w (WithHead c.in-With.span) (ap stmt_of c.in-With.is) in
    let size = length-append (pack_expr parts.0) (pack parts.1) in
    stmt_arm c.args.self.now.source.now c.args.depth _ _ _ c.args.pos w.stmt _ parts.2
    (outlined_end _ (omega arith) (outlined_then _ c.in_ok-put_span_line-in-With.ensures.adds (c.nested-in-With.ensures (record { expr = parts.0; scope = parts.1; expr_fits = parts.4.0; scope_fits = parts.4.1; stands = parts.4.2 }))))
