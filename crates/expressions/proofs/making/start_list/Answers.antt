use Rattle.expressions.proofs.Pushing.{makes_top}
use Rattle.expressions.proofs.making.start_list.Goals as goal

pub returns : goal.returns
returns c = record {
  kept = c.push_value.ensures.kept;
  pushes = makes_top _ _ _ _ _ _ _ _ _ c.requires.known c.empty_list-made.ensures c.push_value.ensures.tops;
}
