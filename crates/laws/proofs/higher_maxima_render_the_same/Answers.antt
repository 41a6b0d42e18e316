use Rattle.laws.proofs.Renderings.{higher_maxima_render_the_same}
use Rattle.laws.proofs.higher_maxima_render_the_same.Goals as goal

pub returns : goal.returns
returns c = higher_maxima_render_the_same
