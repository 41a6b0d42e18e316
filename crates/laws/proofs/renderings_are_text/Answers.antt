use Rattle.laws.proofs.WellFormed.{renderings_are_text}
use Rattle.laws.proofs.renderings_are_text.Goals as goal

pub returns : goal.returns
returns c = renderings_are_text
