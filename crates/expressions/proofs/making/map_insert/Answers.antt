use Rattle.std.proofs.Common.{rules}
use Rattle.store.specs.Values.{inserted}
use Rattle.expressions.proofs.Pushing.{joins}
use Rattle.expressions.proofs.making.map_insert.Goals as goal

pub returns : goal.returns
returns c = record {
  kept = search rules;
  joins =
      joins _ _ _ _ _ _ _ _ (λ m v. inserted m c.args.key.now v) _ _ _ c.in-Some.ensures.popped c.in-Some-pop.ensures.popped c.requires.known
      c.insert-made.ensures c.push_value.ensures.tops;
}
