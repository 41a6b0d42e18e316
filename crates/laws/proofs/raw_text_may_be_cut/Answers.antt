use Rattle.laws.proofs.Forms.{raw_text_may_be_cut}
use Rattle.laws.proofs.raw_text_may_be_cut.Goals as goal

pub returns : goal.returns
returns c = raw_text_may_be_cut
