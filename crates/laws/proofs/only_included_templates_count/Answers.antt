use Rattle.laws.proofs.Included.{only_included_templates_count}
use Rattle.laws.proofs.only_included_templates_count.Goals as goal

pub returns : goal.returns
returns c = only_included_templates_count
