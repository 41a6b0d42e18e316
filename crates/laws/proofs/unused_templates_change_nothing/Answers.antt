use Rattle.laws.proofs.Renderings.{unused_templates_change_nothing}
use Rattle.laws.proofs.unused_templates_change_nothing.Goals as goal

pub returns : goal.returns
returns c = unused_templates_change_nothing
