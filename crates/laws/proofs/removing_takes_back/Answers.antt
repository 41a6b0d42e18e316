use Rattle.laws.proofs.Calls.{removing_takes_back}
use Rattle.laws.proofs.removing_takes_back.Goals as goal

pub returns : goal.returns
returns c = removing_takes_back
