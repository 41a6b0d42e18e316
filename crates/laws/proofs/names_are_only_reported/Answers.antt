use Rattle.laws.proofs.Nameless.{names_are_only_reported}
use Rattle.laws.proofs.names_are_only_reported.Goals as goal

pub returns : goal.returns
returns c = names_are_only_reported
