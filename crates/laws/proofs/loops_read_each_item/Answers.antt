use Rattle.laws.proofs.Scope.{loops_read_each_item}
use Rattle.laws.proofs.loops_read_each_item.Goals as goal

pub returns : goal.returns
returns c = loops_read_each_item
