use Rattle.laws.proofs.WellFormed.{pages_hold_text}
use Rattle.laws.proofs.pages_hold_text.Goals as goal

pub returns : goal.returns
returns c = pages_hold_text
