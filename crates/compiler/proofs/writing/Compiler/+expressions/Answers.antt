use Rattle.std.proofs.Common.{[], ◌∷◌, ◌++◌, sym, append_assoc, ◌∙◌, refl, ap, arith}
use Rattle.reader.specs.Meanings.{expr_of}
use Rattle.program.specs.Program.{compile_base, compile_args, compile_items, ExprListPush}
use Rattle.checker.proofs.Walking.{expr_known, base_known}
use Rattle.compiler.specs.declared.instr.Op.{Op}
use Rattle.compiler.specs.Making.{plain_record}
use Rattle.compiler.proofs.Arms.{base_along, base_of_expr, base_arm, receiver_over, args_over, few_args, filter_arm, base_over, base_expr_arm, value_due, value_over, pairs_over, variable_arm, literal_arm, list_arm, empty_map_arm, map_arm, paren_arm, call_arm}
use Rattle.compiler.proofs.Means.{made_one, made_on}
use Rattle.compiler.proofs.Rows.{args_start, arg_over, args_more, args_all, pairs_start, key_known, pair_over, pairs_more, pairs_all}
use Rattle.compiler.proofs.writing.Compiler.+expressions.Goals as goal

pub compile_args-loop-arg-init : goal.compile_args-loop-arg-init
compile_args-loop-arg-init t c =
    let within = c.requires.there.there.stands.within in
    (refl, record { within = omega arith; counts = omega arith; room = omega arith }, λ w. args_start compile_args w)

pub compile_args-compile_base_expr-at-requires : goal.compile_args-compile_base_expr-at-requires
compile_args-compile_base_expr-at-requires t c =
    let w = c.requires.there in
    (omega arith, (record { short = c.requires.room.short; fewer = omega arith }, arg_over compile_args w (c.loop-arg.invariant.2 w) c.loop-arg-test.true))

pub compile_args-loop-arg-preserved : goal.compile_args-loop-arg-preserved
unfolding compile_args
compile_args-loop-arg-preserved t c = (
  c.compile_base_expr-at.ensures.lender ∙ c.loop-arg.invariant.0,
  record { within = omega arith; counts = omega arith; room = omega arith },
  λ w.
      let l = c.loop-arg.invariant.2 w in
      let m = (c.compile_base_expr-at.ensures.made (arg_over compile_args w l c.loop-arg-test.true)).0 in
      args_more compile_args w l compile_base (λ b bs. refl) c.loop-arg-test.true m.ends m.made,
)

pub compile_args-returns-clause-made : goal.compile_args-returns-clause-made
unfolding compile_args
compile_args-returns-clause-made t c = λ w. args_all compile_args w (c.loop-arg.invariant.2 w) refl (omega arith)

pub compile_base_expr-unreachable-requires : goal.compile_base_expr-unreachable-requires
compile_base_expr-unreachable-requires t c = let w = c.requires.there in base_known w.source c.args.tree.now c.args.pos w.short w.there c.in_default.ensures.same

pub compile_base_expr-compile_behind-requires : goal.compile_base_expr-compile_behind-requires
compile_base_expr-compile_behind-requires t c =
    let moves = c.in-Some.ensures.moves in
    let over = base_over c.requires.there _ moves c.in-Some.ensures.same in
    let along = base_along over in
    (omega arith, (c.requires.room, (over, (along, moves.1))))

pub compile_base_expr-returns-clause-made : goal.compile_base_expr-returns-clause-made
compile_base_expr-returns-clause-made t c = λ w. base_expr_arm w _ c.in-Some.ensures.moves c.in-Some.ensures.same c.compile_behind.ensures.made

pub compile_behind-unreachable-requires : goal.compile_behind-unreachable-requires
compile_behind-unreachable-requires t c = value_due (rw c.in-Literal.is at c.requires.there) c.in_default.ensures.same

pub compile_behind-compile_base_expr-value-requires : goal.compile_behind-compile_base_expr-value-requires
compile_behind-compile_base_expr-value-requires t c =
    (omega arith, (record { short = c.requires.room.short; fewer = omega arith }, value_over (rw c.in-Map.is at c.requires.there)))

pub compile_behind-compile_pairs-end-requires : goal.compile_behind-compile_pairs-end-requires
compile_behind-compile_pairs-end-requires t c =
    (omega arith, (record { short = c.requires.room.short; fewer = omega arith }, pairs_over (rw c.in-Map.is at c.requires.there) c.compile_base_expr-value.ensures.made))

pub compile_behind-returns-in-Variable-clause-made : goal.compile_behind-returns-in-Variable-clause-made
compile_behind-returns-in-Variable-clause-made t c = rw c.in-Variable.is (variable_arm c.plain.ensures c.push.ensures.pushed)

pub compile_behind-returns-in-Some-clause-made : goal.compile_behind-returns-in-Some-clause-made
compile_behind-returns-in-Some-clause-made t c = rw c.in-Literal.is (literal_arm _ c.in-Some.ensures.moves c.in-Some.ensures.same c.plain-in-Literal.ensures c.push-in-Literal.ensures.pushed)

pub compile_behind-returns-in-List-clause-made : goal.compile_behind-returns-in-List-clause-made
compile_behind-returns-in-List-clause-made t c = rw c.in-List.is (list_arm c.plain-in-List.ensures c.push-in-List.ensures.pushed c.compile_items-end.ensures.made)

pub compile_behind-returns-in-EmptyMap-clause-made : goal.compile_behind-returns-in-EmptyMap-clause-made
compile_behind-returns-in-EmptyMap-clause-made t c = rw c.in-EmptyMap.is (empty_map_arm c.plain-in-EmptyMap.ensures c.push-in-EmptyMap.ensures.pushed)

pub compile_behind-returns-in-Map-clause-made : goal.compile_behind-returns-in-Map-clause-made
compile_behind-returns-in-Map-clause-made t c =
    rw c.in-Map.is (map_arm c.plain-in-Map.ensures c.push-in-Map.ensures.pushed c.compile_base_expr-value.ensures.made c.plain-in-Map-2.ensures c.push-in-Map-2.ensures.pushed c.compile_pairs-end.ensures.made)

pub compile_behind-returns-in-Paren-clause-made : goal.compile_behind-returns-in-Paren-clause-made
compile_behind-returns-in-Paren-clause-made t c = rw c.in-Paren.is (paren_arm c.compile_expr.ensures.made)

pub compile_behind-returns-in-Call-clause-made : goal.compile_behind-returns-in-Call-clause-made
compile_behind-returns-in-Call-clause-made t c = rw c.in-Call.is (call_arm c.compile_args-end.ensures.made c.push_apply.ensures.end c.push_apply.ensures.applied c.push_apply.ensures.pushed)

pub compile_expr-unreachable-requires : goal.compile_expr-unreachable-requires
compile_expr-unreachable-requires t c = let w = c.requires.there in expr_known w.source c.args.tree.now c.args.pos w.short w.there c.in_default.ensures.same

pub compile_expr-compile_behind-requires : goal.compile_expr-compile_behind-requires
compile_expr-compile_behind-requires t c =
    let moves = c.in-Some.ensures.moves in
    let over = base_of_expr c.requires.there _ moves c.in-Some.ensures.same c.in-Base.is in
    let along = base_along over in
    (omega arith, (c.requires.room, (over, (along, moves.1))))

pub compile_expr-compile_expr-receiver-requires : goal.compile_expr-compile_expr-receiver-requires
compile_expr-compile_expr-receiver-requires t c =
    let moves = c.in-Some.ensures.moves in
    let along = moves.0 in
    let inside = moves.1 in
    (omega arith, (record { short = c.requires.room.short; fewer = omega arith }, receiver_over c.requires.there _ c.in-Some.ensures.moves c.in-Some.ensures.same (ap expr_of c.in-Filter.is)))

pub compile_expr-compile_args-end-requires : goal.compile_expr-compile_args-end-requires
compile_expr-compile_args-end-requires t c =
    let moves = c.in-Some.ensures.moves in
    let along = moves.0 in
    let inside = moves.1 in
    (omega arith, (record { short = c.requires.room.short; fewer = omega arith }, args_over c.requires.there _ c.in-Some.ensures.moves c.in-Some.ensures.same (ap expr_of c.in-Filter.is) c.compile_expr-receiver.ensures.made))

pub compile_expr-overflow_add-count : goal.compile_expr-overflow_add-count
compile_expr-overflow_add-count t c = let few = few_args c.requires.there _ c.in-Some.ensures.moves c.in-Some.ensures.same (ap expr_of c.in-Filter.is) in omega arith

pub compile_expr-returns-in-Base-clause-made : goal.compile_expr-returns-in-Base-clause-made
compile_expr-returns-in-Base-clause-made t c = λ w. base_arm w _ c.in-Some.ensures.moves c.in-Some.ensures.same c.in-Base.is c.compile_behind.ensures.made

pub compile_expr-returns-in-Filter-clause-made : goal.compile_expr-returns-in-Filter-clause-made
compile_expr-returns-in-Filter-clause-made t c = λ w. filter_arm w _ c.in-Some.ensures.moves c.in-Some.ensures.same (ap expr_of c.in-Filter.is) c.compile_expr-receiver.ensures.made c.compile_args-end.ensures.made c.push_apply.ensures.end c.push_apply.ensures.applied c.push_apply.ensures.pushed

pub compile_items-loop-item-init : goal.compile_items-loop-item-init
compile_items-loop-item-init t c =
    let within = c.requires.there.there.stands.within in
    (refl, record { within = omega arith; counts = omega arith; room = omega arith }, λ w. args_start compile_items w)

pub compile_items-compile_base_expr-at-requires : goal.compile_items-compile_base_expr-at-requires
compile_items-compile_base_expr-at-requires t c =
    let w = c.requires.there in
    (omega arith, (record { short = c.requires.room.short; fewer = omega arith }, arg_over compile_items w (c.loop-item.invariant.2 w) c.loop-item-test.true))

pub compile_items-loop-item-preserved : goal.compile_items-loop-item-preserved
unfolding compile_items
compile_items-loop-item-preserved t c = (
  c.push.ensures.lender ∙ c.compile_base_expr-at.ensures.lender ∙ c.loop-item.invariant.0,
  record { within = omega arith; counts = omega arith; room = omega arith },
  λ w.
      let l = c.loop-item.invariant.2 w in
      let m = (c.compile_base_expr-at.ensures.made (arg_over compile_items w l c.loop-item-test.true)).0 in
      args_more compile_items w l (λ b. compile_base b ++ (ExprListPush ∷ [])) (λ b bs. sym (append_assoc (compile_base b) (ExprListPush ∷ []) (compile_items bs))) c.loop-item-test.true m.ends
      (made_on m.made (made_one (plain_record Op.ExprListPush 0) ExprListPush refl c.plain.ensures c.push.ensures.pushed)),
)

pub compile_items-returns-clause-made : goal.compile_items-returns-clause-made
unfolding compile_items
compile_items-returns-clause-made t c = λ w. args_all compile_items w (c.loop-item.invariant.2 w) refl (omega arith)

pub compile_pairs-loop-pair-init : goal.compile_pairs-loop-pair-init
compile_pairs-loop-pair-init t c =
    let within = c.requires.there.there.stands.within in
    (refl, record { within = omega arith; counts = omega arith; room = omega arith }, λ w. pairs_start w)

pub compile_pairs-unreachable-requires : goal.compile_pairs-unreachable-requires
compile_pairs-unreachable-requires t c = let w = c.requires.there in key_known w (c.loop-pair.invariant.2 w) c.loop-pair-test.true c.in_default.ensures.same

pub compile_pairs-compile_base_expr-at-requires : goal.compile_pairs-compile_base_expr-at-requires
compile_pairs-compile_base_expr-at-requires t c =
    let w = c.requires.there in
    let moves = c.in-Some.ensures.moves in
    let along = moves.0 in
    (omega arith, (record { short = c.requires.room.short; fewer = omega arith }, pair_over w (c.loop-pair.invariant.2 w) c.loop-pair-test.true c.in-Some.field-0-0 c.in-Some.ensures.moves.1 c.in-Some.ensures.same))

pub compile_pairs-loop-pair-preserved : goal.compile_pairs-loop-pair-preserved
compile_pairs-loop-pair-preserved t c =
    let moves = c.in-Some.ensures.moves in
    let along = moves.0 in (
      c.push.ensures.lender ∙ c.compile_base_expr-at.ensures.lender ∙ c.loop-pair.invariant.0,
      record { within = omega arith; counts = omega arith; room = omega arith },
      λ w. pairs_more w (c.loop-pair.invariant.2 w) c.loop-pair-test.true c.in-Some.field-0-0 c.in-Some.ensures.moves.1 c.in-Some.ensures.same c.compile_base_expr-at.ensures.made c.plain.ensures c.push.ensures.pushed,
    )

pub compile_pairs-returns-clause-made : goal.compile_pairs-returns-clause-made
compile_pairs-returns-clause-made t c = λ w. pairs_all w (c.loop-pair.invariant.2 w) (omega arith)
