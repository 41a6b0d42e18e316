use Rattle.laws.proofs.Order.{scopes_read_in_order}
use Rattle.laws.proofs.scopes_read_in_order.Goals as goal

pub returns : goal.returns
returns c = scopes_read_in_order
