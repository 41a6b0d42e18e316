use Rattle.laws.proofs.Text.{texts_are_written}
use Rattle.laws.proofs.texts_are_written.Goals as goal

pub returns : goal.returns
returns c = texts_are_written
