use Rattle.program.proofs.Targets.{loop_is_left}
use Rattle.program.proofs.loop_is_left.Goals as goal

pub returns : goal.returns
returns c = loop_is_left
