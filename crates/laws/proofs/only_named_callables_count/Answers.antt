use Rattle.laws.proofs.Included.{only_named_callables_count}
use Rattle.laws.proofs.only_named_callables_count.Goals as goal

pub returns : goal.returns
returns c = only_named_callables_count
