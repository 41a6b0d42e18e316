use Rattle.laws.proofs.Order.{faults_end_reading}
use Rattle.laws.proofs.faults_end_reading.Goals as goal

pub returns : goal.returns
returns c = faults_end_reading
