use Rattle.laws.proofs.Calls.{loading_replaces}
use Rattle.laws.proofs.loading_replaces.Goals as goal

pub returns : goal.returns
returns c = loading_replaces
