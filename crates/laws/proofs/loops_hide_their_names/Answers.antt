use Rattle.laws.proofs.Scope.{loops_hide_their_names}
use Rattle.laws.proofs.loops_hide_their_names.Goals as goal

pub returns : goal.returns
returns c = loops_hide_their_names
