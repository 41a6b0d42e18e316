use Rattle.laws.proofs.Scope.{entries_are_of_their_turn}
use Rattle.laws.proofs.entries_are_of_their_turn.Goals as goal

pub returns : goal.returns
returns c = entries_are_of_their_turn
