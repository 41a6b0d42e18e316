use Rattle.laws.proofs.Boundary.{templates_are_read}
use Rattle.laws.proofs.templates_are_read.Goals as goal

pub returns : goal.returns
returns c = templates_are_read
