use Rattle.laws.proofs.Depth.{none_is_one_too_many}
use Rattle.laws.proofs.none_is_one_too_many.Goals as goal

pub returns : goal.returns
returns c = none_is_one_too_many
