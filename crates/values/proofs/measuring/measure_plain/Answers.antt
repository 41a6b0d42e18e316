use Rattle.std.proofs.Common.{◌≡◌, suc, ◌-◌, ap, arith}
use Rattle.meaning.specs.Charge.{Charge}
use Rattle.values.proofs.Exits.{refused_with}
use Rattle.values.proofs.Plains.{plain_cut, plain_too_deep, plain_costs, plain_text}
use Rattle.values.proofs.measuring.measure_plain.Goals as goal

pub returns-in_err-value-clause-same : goal.returns-in_err-value-clause-same
returns-in_err-value-clause-same c =
    let none = c.in_err-value.ensures in
    let read = rw none.ok_part at c.plain_value.ensures in
    rw (refused_with c.from_residual.result c.from_residual.ensures.1 none.value none.ok_part)
    (plain_cut c.args.bytes.now c.args.pos c.args.levels read.same)

pub returns-then-levels-eq0-clause-same : goal.returns-then-levels-eq0-clause-same
returns-then-levels-eq0-clause-same c =
    let read = rw c.in_ok-value.ensures.ok_part at c.plain_value.ensures in
    plain_too_deep c.args.bytes.now c.args.pos c.args.levels _ _ read.same c.if-levels-eq0.true

pub returns : goal.returns
returns c =
    let read = rw c.in_ok-value.ensures.ok_part at c.plain_value.ensures in
    let some : c.args.levels ≡ suc (c.args.levels - 1) = omega arith in
    let ahead = read.moves in
    let text = plain_text c.args.bytes.now c.args.pos c.args.levels _ c.in_ok-value.next read.same ahead in
    let same = ap (λ (x : Charge). x.bytes) c.of_plain.ensures.same in
    record {
      same = plain_costs c.args.bytes.now c.args.pos c.args.levels _ c.in_ok-value.next read.same (c.args.levels - 1) some _ c.of_plain.ensures.same;
      moves = (record { inside = omega arith; values = omega arith; parts = omega arith; text = omega arith }, omega arith);
    }
