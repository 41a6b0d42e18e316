use Rattle.meaning.proofs.Ieee754.{float_truth}
use Rattle.meaning.proofs.floats_are_ieee_754.Goals as goal

pub returns : goal.returns
returns c = float_truth
