use Rattle.laws.proofs.Scope.{loop_is_of_the_innermost}
use Rattle.laws.proofs.loop_is_of_the_innermost.Goals as goal

pub returns : goal.returns
returns c = loop_is_of_the_innermost
