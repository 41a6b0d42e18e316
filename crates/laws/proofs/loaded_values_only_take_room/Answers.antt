use Rattle.laws.proofs.Renderings.{loaded_values_only_take_room}
use Rattle.laws.proofs.loaded_values_only_take_room.Goals as goal

pub returns : goal.returns
returns c = loaded_values_only_take_room
