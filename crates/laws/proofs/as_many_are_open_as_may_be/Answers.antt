use Rattle.laws.proofs.Depth.{as_many_are_open_as_may_be}
use Rattle.laws.proofs.as_many_are_open_as_may_be.Goals as goal

pub returns : goal.returns
returns c = as_many_are_open_as_may_be
