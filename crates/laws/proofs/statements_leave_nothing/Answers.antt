use Rattle.laws.proofs.Tally.{statements_leave_nothing}
use Rattle.laws.proofs.statements_leave_nothing.Goals as goal

pub returns : goal.returns
returns c = statements_leave_nothing
