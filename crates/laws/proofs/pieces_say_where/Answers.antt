use Rattle.laws.proofs.Faults.{pieces_say_where}
use Rattle.laws.proofs.pieces_say_where.Goals as goal

pub returns : goal.returns
returns c = pieces_say_where
