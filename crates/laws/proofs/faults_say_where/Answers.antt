use Rattle.laws.proofs.Faults.{faults_say_where}
use Rattle.laws.proofs.faults_say_where.Goals as goal

pub returns : goal.returns
returns c = faults_say_where
