use Rattle.laws.proofs.Orders.{adding_has_no_order}
use Rattle.laws.proofs.adding_has_no_order.Goals as goal

pub returns : goal.returns
returns g c = adding_has_no_order _
