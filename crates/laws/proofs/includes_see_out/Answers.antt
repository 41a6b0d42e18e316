use Rattle.laws.proofs.Boundary.{includes_see_out}
use Rattle.laws.proofs.includes_see_out.Goals as goal

pub returns : goal.returns
returns c = includes_see_out
