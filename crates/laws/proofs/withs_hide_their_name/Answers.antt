use Rattle.laws.proofs.Scope.{withs_hide_their_name}
use Rattle.laws.proofs.withs_hide_their_name.Goals as goal

pub returns : goal.returns
returns c = withs_hide_their_name
