use Rattle.laws.proofs.Order.{sinks_are_offered_in_order}
use Rattle.laws.proofs.sinks_are_offered_in_order.Goals as goal

pub returns : goal.returns
returns c = sinks_are_offered_in_order
