use Rattle.std.proofs.Common.{sym, ◌∙◌, arith}
use Rattle.reader.proofs.Members.{variable_is, ended_refused, members_there}
use Rattle.reader.proofs.field.read_variable.Goals as goal

pub returns-in_err-end-clause-same : goal.returns-in_err-end-clause-same
returns-in_err-end-clause-same c = λ at.
    rw c.from_residual-in_err-end.ensures (sym (variable_is c.in_ok-count.count at _ _ (omega arith) (omega arith) (c.in_ok-count.ensures.same at) ∙ ended_refused _ _ _ (c.in_err-end.ensures.same at)))

pub returns-clause-same : goal.returns-clause-same
returns-clause-same c = λ at.
    members_there c.args.tree.now c.in_ok-count.count at c.in_ok-count.start c.in_ok-end.end c.in_ok-end.ensures.moves (c.in_ok-end.ensures.same at)
    ∙ sym (variable_is c.in_ok-count.count at _ _ (omega arith) (omega arith) (c.in_ok-count.ensures.same at))
