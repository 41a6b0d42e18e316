use Rattle.laws.proofs.Truth.{only_these_are_false}
use Rattle.laws.proofs.only_these_are_false.Goals as goal

pub returns : goal.returns
returns c = only_these_are_false
