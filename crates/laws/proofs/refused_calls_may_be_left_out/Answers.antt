use Rattle.laws.proofs.Calls.{refused_calls_may_be_left_out}
use Rattle.laws.proofs.refused_calls_may_be_left_out.Goals as goal

pub returns : goal.returns
returns g c = refused_calls_may_be_left_out _
