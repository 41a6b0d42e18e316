use Rattle.laws.proofs.Paths.{paths_are_walked_in_order}
use Rattle.laws.proofs.paths_are_walked_in_order.Goals as goal

pub returns : goal.returns
returns c = paths_are_walked_in_order
