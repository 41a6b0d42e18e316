use Rattle.std.proofs.Common.{◌≡◌, arith}
use Rattle.packing.specs.Unpacking.{value_within}
use Rattle.sources.proofs.PackedItems.{none_passed, not_so_many, found_here, passed_on, never_cut}
use Rattle.sources.proofs.packed.PackedParts.item.Goals as goal

pub returns-then-number-from : goal.returns-then-number-from
returns-then-number-from c vs stand =
    not_so_many (value_within c.args.self.levels) c.args.self.count c.args.number c.args.self.bytes.now vs stand.0 stand.1 (omega (arith, c.from.ensures, c.if-number-from.true))

pub loop-passed-init : goal.loop-passed-init
loop-passed-init c vs rest reads = none_passed (value_within c.args.self.levels) c.args.self.count c.args.self.bytes.now c.args.number vs rest reads

pub returns-in_err-bytes : goal.returns-in_err-bytes
returns-in_err-bytes c vs stand =
    let p = c.part-item.ensures in
    absurd (never_cut c.args.self.levels c.args.self.count c.loop-passed._passed c.loop-passed.bytes.now c.args.number vs (c.loop-passed.invariant vs stand.0 stand.1)
    (omega (arith, c.from.ensures, c.if-number-from.false, c.loop-passed-test.true)) c.part-item.result p.0 p.1 c.in_err-bytes.ensures)

pub loop-passed-preserved : goal.loop-passed-preserved
loop-passed-preserved c vs rest reads =
    let p = c.part-item.ensures in
    passed_on c.args.self.levels c.args.self.count c.loop-passed._passed c.loop-passed.bytes.now c.args.number vs (c.loop-passed.invariant vs rest reads)
    (omega (arith, c.from.ensures, c.if-number-from.false, c.loop-passed-test.true)) c.part-item.result p.0 p.1 c.loop-passed-test.true c.in_ok-bytes.bytes.now c.in_ok-bytes.ensures

pub returns : goal.returns
returns c vs stand =
    let p = c.part.ensures in
    let end : c.loop-passed._passed ≡ c.args.number = omega arith in
    found_here c.args.self.levels c.args.self.count c.loop-passed._passed c.loop-passed.bytes.now c.args.number vs (c.loop-passed.invariant vs stand.0 stand.1)
    (omega (arith, c.from.ensures, c.if-number-from.false, end)) c.part.result p.0 p.1 end
