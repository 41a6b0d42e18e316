use Rattle.std.proofs.Common.{◌-◌, ◌∙◌, arith}
use Rattle.packing.specs.Unpacking.{args, base_within}
use Rattle.checker.proofs.Rests.{expr_goes_on, after_read, after_refused, pairs_stop, pairs_step, exit}
use Rattle.checker.proofs.check.Checker.+expressions.Goals as goal

pub check_expr-returns-in-Base-clause-same : goal.check_expr-returns-in-Base-clause-same
check_expr-returns-in-Base-clause-same t c =
    c.check_inside.ensures.same
    ∙ expr_goes_on c.args.self.now.source.now c.args.self.now.tree.now c.args.pos c.args.levels c.in_ok-below.below _ _ (rw c.in-Base.is at c.in_ok-command.ensures.same) (grind arith)

pub check_expr-returns-in_err-after-in-Filter-clause-same : goal.check_expr-returns-in_err-after-in-Filter-clause-same
check_expr-returns-in_err-after-in-Filter-clause-same t c =
    exit _ _ _ _ c.from_residual-in_err-after-in-Filter.ensures.1
    (after_refused _ _ _ (λ _. args (base_within c.args.self.now.source.now c.in_ok-below.below) c.in-Filter.count) c.in_err-after-in-Filter.ensures.same
    ∙ expr_goes_on c.args.self.now.source.now c.args.self.now.tree.now c.args.pos c.args.levels c.in_ok-below.below _ _ (rw c.in-Filter.is at c.in_ok-command.ensures.same) (grind arith))

pub check_expr-returns-in_ok-after-in-Filter-clause-same : goal.check_expr-returns-in_ok-after-in-Filter-clause-same
check_expr-returns-in_ok-after-in-Filter-clause-same t c =
    c.check_args.ensures.same
    ∙ after_read _ _ (args (base_within c.args.self.now.source.now c.in_ok-below.below) c.in-Filter.count) c.in_ok-after-in-Filter.ensures.same
    ∙ expr_goes_on c.args.self.now.source.now c.args.self.now.tree.now c.args.pos c.args.levels c.in_ok-below.below _ _ (rw c.in-Filter.is at c.in_ok-command.ensures.same) (grind arith)

pub check_pairs-returns-in_err-at-2-clause-same : goal.check_pairs-returns-in_err-at-2-clause-same
check_pairs-returns-in_err-at-2-clause-same t c =
    let taken = rw c.in_ok-key.ensures.ok_part at c.read_string.ensures.same in
    exit _ _ _ _ c.from_residual-in_err-at-2.ensures.1
    (pairs_stop _ _ _ (c.args.more - c.loop-pair._pair) _ _ _ _ _ (omega arith) (taken _) c.if-not-is_inside.ensures c.in_err-at-2.ensures.same
    ∙ c.loop-pair.invariant.2)

pub check_pairs-loop-pair-preserved : goal.check_pairs-loop-pair-preserved
check_pairs-loop-pair-preserved t c =
    let taken = rw c.in_ok-key.ensures.ok_part at c.read_string.ensures.same in
    let key = rw c.in_ok-key.ensures.ok_part at c.read_string.ensures.moves in
    let moves = c.in_ok-at-2.ensures.moves in (
      omega arith,
      omega arith,
      pairs_step _ _ _ (c.args.more - c.loop-pair._pair) _ _ _ _ _ (omega arith) (taken _) c.if-not-is_inside.ensures c.in_ok-at-2.ensures.same ∙ c.loop-pair.invariant.2,
    )
