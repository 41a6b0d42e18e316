use Rattle.laws.proofs.Boundary.{includes_with_see_their_value}
use Rattle.laws.proofs.includes_with_see_their_value.Goals as goal

pub returns : goal.returns
returns c = includes_with_see_their_value
