use Rattle.expressions.proofs.Pushing.{makes_top}
use Rattle.expressions.proofs.making.start_literal.Goals as goal

pub returns : goal.returns
returns c = record {
  kept = c.push_value.ensures.kept;
  pushes = makes_top _ _ _ _ _ _ _ _ _ c.requires.known c.make_plain-made.ensures c.push_value.ensures.tops;
}
