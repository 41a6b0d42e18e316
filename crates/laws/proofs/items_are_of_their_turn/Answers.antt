use Rattle.laws.proofs.Scope.{items_are_of_their_turn}
use Rattle.laws.proofs.items_are_of_their_turn.Goals as goal

pub returns : goal.returns
returns c = items_are_of_their_turn
