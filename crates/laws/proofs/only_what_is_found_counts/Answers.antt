use Rattle.laws.proofs.Same.{only_what_is_found_counts}
use Rattle.laws.proofs.only_what_is_found_counts.Goals as goal

pub returns : goal.returns
returns c = only_what_is_found_counts
