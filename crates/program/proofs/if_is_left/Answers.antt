use Rattle.program.proofs.Targets.{if_is_left}
use Rattle.program.proofs.if_is_left.Goals as goal

pub returns : goal.returns
returns c = if_is_left
