use Rattle.laws.proofs.Tally.{ifs_keep_nothing}
use Rattle.laws.proofs.ifs_keep_nothing.Goals as goal

pub returns : goal.returns
returns c = ifs_keep_nothing
