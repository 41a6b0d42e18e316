use Rattle.std.proofs.Common.{rules}
use Rattle.store.specs.Values.{pushed}
use Rattle.expressions.proofs.Pushing.{joins}
use Rattle.expressions.proofs.making.list_push.Goals as goal

pub returns : goal.returns
returns c = record {
  kept = search rules;
  joins =
      joins _ _ _ _ _ _ _ _ pushed _ _ _ c.in-Some.ensures.popped c.in-Some-pop.ensures.popped c.requires.known
      c.push-made.ensures c.push_value.ensures.tops;
}
