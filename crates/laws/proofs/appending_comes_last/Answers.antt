use Rattle.laws.proofs.Paths.{appending_comes_last}
use Rattle.laws.proofs.appending_comes_last.Goals as goal

pub returns : goal.returns
returns c = appending_comes_last
