use Rattle.laws.proofs.Depth.{more_templates_may_be_open}
use Rattle.laws.proofs.more_templates_may_be_open.Goals as goal

pub returns : goal.returns
returns c = more_templates_may_be_open
