use Rattle.laws.proofs.Tally.{repeating_needs_no_room}
use Rattle.laws.proofs.repeating_needs_no_room.Goals as goal

pub returns : goal.returns
returns c = repeating_needs_no_room
