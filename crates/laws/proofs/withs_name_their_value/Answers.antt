use Rattle.laws.proofs.Scope.{withs_name_their_value}
use Rattle.laws.proofs.withs_name_their_value.Goals as goal

pub returns : goal.returns
returns c = withs_name_their_value
