use Rattle.laws.proofs.Boundary.{nothing_behind_a_boundary_counts}
use Rattle.laws.proofs.nothing_behind_a_boundary_counts.Goals as goal

pub returns : goal.returns
returns c = nothing_behind_a_boundary_counts
