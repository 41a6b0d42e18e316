use Rattle.laws.proofs.Forms.{parens_change_nothing}
use Rattle.laws.proofs.parens_change_nothing.Goals as goal

pub returns : goal.returns
returns c = parens_change_nothing
