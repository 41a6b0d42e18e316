use Rattle.program.proofs.Targets.{else_is_reached}
use Rattle.program.proofs.else_is_reached.Goals as goal

pub returns : goal.returns
returns c = else_is_reached
