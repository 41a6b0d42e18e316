use Rattle.laws.proofs.Renderings.{more_supply_renders_the_same}
use Rattle.laws.proofs.more_supply_renders_the_same.Goals as goal

pub returns : goal.returns
returns c = more_supply_renders_the_same
