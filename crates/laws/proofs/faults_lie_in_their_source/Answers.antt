use Rattle.laws.proofs.Placed.{faults_lie_in_their_source}
use Rattle.laws.proofs.faults_lie_in_their_source.Goals as goal

pub returns : goal.returns
returns c = faults_lie_in_their_source
