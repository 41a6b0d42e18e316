use Rattle.std.proofs.Common.{ap, is_lt, ◌∙◌}
use Rattle.values.proofs.Keys.{less_precedes}
use Rattle.values.proofs.key.is_before.Goals as goal

pub returns : goal.returns
returns c = c.is_lt.ensures ∙ ap is_lt c.cmp.ensures ∙ less_precedes c.args.a.now c.args.b.now
