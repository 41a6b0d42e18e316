use Rattle.laws.proofs.Truth.{indexes_find_their_part}
use Rattle.laws.proofs.indexes_find_their_part.Goals as goal

pub returns : goal.returns
returns c = indexes_find_their_part
