use Rattle.laws.proofs.Costs.{expressions_have_a_cost}
use Rattle.laws.proofs.expressions_have_a_cost.Goals as goal

pub returns : goal.returns
returns c = expressions_have_a_cost
