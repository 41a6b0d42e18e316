use Rattle.laws.proofs.Tally.{withs_keep_their_value}
use Rattle.laws.proofs.withs_keep_their_value.Goals as goal

pub returns : goal.returns
returns c = withs_keep_their_value
