use Rattle.std.proofs.Common.{arith}
use Rattle.std.proofs.lemmas.Result.{err_from_is_err_and}
use Rattle.values.proofs.Wholes.{whole_refused, whole_costs, whole_left_over}
use Rattle.values.proofs.measuring.measure_whole.Goals as goal

pub returns-in_err-cost : goal.returns-in_err-cost
returns-in_err-cost c =
    let p = err_from_is_err_and c.from_residual.result c.from_residual.ensures.1 in
    rw (p.1, p.2) (whole_refused c.args.bytes.now _ _ c.in_err-cost.ensures.same c.in_err-cost.ensures.moves)

pub returns-then-end-bytes : goal.returns-then-end-bytes
returns-then-end-bytes c = whole_costs c.args.bytes.now _ c.in_ok-cost.end c.in_ok-cost.ensures.same (omega arith)

pub returns-else-end-bytes : goal.returns-else-end-bytes
returns-else-end-bytes c =
    let moves = c.in_ok-cost.ensures.moves in
    let other = c.if-end-bytes.false in
    whole_left_over c.args.bytes.now _ c.in_ok-cost.end c.in_ok-cost.ensures.same (omega arith)
