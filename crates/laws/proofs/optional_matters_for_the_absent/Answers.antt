use Rattle.laws.proofs.Paths.{optional_matters_for_the_absent}
use Rattle.laws.proofs.optional_matters_for_the_absent.Goals as goal

pub returns : goal.returns
returns c = optional_matters_for_the_absent
