use Rattle.laws.proofs.Text.{texts_are_joined}
use Rattle.laws.proofs.texts_are_joined.Goals as goal

pub returns : goal.returns
returns c = texts_are_joined
