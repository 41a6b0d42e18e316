use Rattle.laws.proofs.Tally.{only_the_room_left_counts}
use Rattle.laws.proofs.only_the_room_left_counts.Goals as goal

pub returns : goal.returns
returns c = only_the_room_left_counts
