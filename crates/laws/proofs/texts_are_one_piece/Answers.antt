use Rattle.laws.proofs.Text.{texts_are_one_piece}
use Rattle.laws.proofs.texts_are_one_piece.Goals as goal

pub returns : goal.returns
returns g c = texts_are_one_piece _
