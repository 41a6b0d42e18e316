use Rattle.laws.proofs.Forms.{not_swaps_branches}
use Rattle.laws.proofs.not_swaps_branches.Goals as goal

pub returns : goal.returns
returns c = not_swaps_branches
