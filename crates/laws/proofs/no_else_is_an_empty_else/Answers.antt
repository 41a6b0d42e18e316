use Rattle.laws.proofs.Forms.{no_else_is_an_empty_else}
use Rattle.laws.proofs.no_else_is_an_empty_else.Goals as goal

pub returns : goal.returns
returns c = no_else_is_an_empty_else
