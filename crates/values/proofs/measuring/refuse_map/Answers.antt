use Rattle.std.proofs.Common.{◌≡◌, suc, ◌-◌, length, arith}
use Rattle.values.proofs.Maps.{deep_empty, deep_key, deep_cut}
use Rattle.values.proofs.measuring.refuse_map.Goals as goal

pub returns-then-count-eq0-clause-same : goal.returns-then-count-eq0-clause-same
returns-then-count-eq0-clause-same c =
    deep_empty (length c.args.bytes.now - c.args.start) c.args.count _ c.if-count-eq0.true

pub returns-in-Some-clause-same : goal.returns-in-Some-clause-same
returns-in-Some-clause-same c =
    let some : c.args.count ≡ suc (c.args.count - 1) = omega arith in
    let at = length c.args.bytes.now - c.args.start in
    deep_key at c.args.count _ (c.args.count - 1) some _ _ (c.in-Some.ensures.same at)

pub returns-in-None-clause-same : goal.returns-in-None-clause-same
returns-in-None-clause-same c =
    let some : c.args.count ≡ suc (c.args.count - 1) = omega arith in
    let at = length c.args.bytes.now - c.args.start in
    deep_cut at c.args.count _ (c.args.count - 1) some (c.in-None.ensures.same at)
