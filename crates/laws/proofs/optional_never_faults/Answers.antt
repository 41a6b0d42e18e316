use Rattle.laws.proofs.Truth.{optional_never_faults}
use Rattle.laws.proofs.optional_never_faults.Goals as goal

pub returns : goal.returns
returns c = optional_never_faults
