use Rattle.laws.proofs.Paths.{inserting_replaces}
use Rattle.laws.proofs.inserting_replaces.Goals as goal

pub returns : goal.returns
returns c = inserting_replaces
