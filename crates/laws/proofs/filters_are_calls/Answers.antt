use Rattle.laws.proofs.Forms.{filters_are_calls}
use Rattle.laws.proofs.filters_are_calls.Goals as goal

pub returns : goal.returns
returns c = filters_are_calls
