use Rattle.laws.proofs.Boundary.{includes_with_see_nothing_else}
use Rattle.laws.proofs.includes_with_see_nothing_else.Goals as goal

pub returns : goal.returns
returns c = includes_with_see_nothing_else
