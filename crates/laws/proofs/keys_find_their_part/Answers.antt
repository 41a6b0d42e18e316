use Rattle.laws.proofs.Truth.{keys_find_their_part}
use Rattle.laws.proofs.keys_find_their_part.Goals as goal

pub returns : goal.returns
returns c = keys_find_their_part
