use Rattle.decoder.proofs.Variables.{variable_means, variable_missing}
use Rattle.decoder.proofs.decode.decode.Goals as goal

pub returns-in_err-read_variable-in-ExprStartVar : goal.returns-in_err-read_variable-in-ExprStartVar
returns-in_err-read_variable-in-ExprStartVar c =
    rw (c.from_residual-in_err-read_variable-in-ExprStartVar.ensures, c.in-ExprStartVar.is)
    (record { same = variable_missing c.args.tree.now c.args.instr.at (c.in_err-read_variable-in-ExprStartVar.ensures.same 0); sound = tt })

pub returns-in_ok-read_variable-in-ExprStartVar : goal.returns-in_ok-read_variable-in-ExprStartVar
returns-in_ok-read_variable-in-ExprStartVar c =
    let means = variable_means c.args.tree.now c.args.instr.at _ _ (c.in_ok-read_variable-in-ExprStartVar.ensures.same 0) in
    rw c.in-ExprStartVar.is (record { same = means.0; sound = means.1 })
