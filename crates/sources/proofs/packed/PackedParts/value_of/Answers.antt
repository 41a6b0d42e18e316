use Rattle.std.proofs.Common.{◌∙◌, sym}
use Rattle.sources.proofs.PackedValues.{tail_is}
use Rattle.sources.proofs.PackedEntries.{none_passed, all_passed, never_unnamed, found_here, passed_on, never_cut}
use Rattle.sources.proofs.packed.PackedParts.value_of.Goals as goal

pub loop-passed-init : goal.loop-passed-init
loop-passed-init c es stand = none_passed c.args.self c.args.key.now es stand

pub returns-in_err-name : goal.returns-in_err-name
returns-in_err-name c es stand =
    absurd (never_unnamed c.args.self.levels c.args.self.count c.loop-passed._passed c.loop-passed.bytes.now c.args.key.now es (c.loop-passed.invariant es stand)
    c.loop-passed-test.true c.in_err-name.ensures.same)

pub returns-then-eq : goal.returns-then-eq
returns-then-eq c es stand =
    let p = c.part-value.ensures in
    found_here c.args.self.levels c.args.self.count c.loop-passed._passed c.loop-passed.bytes.now c.args.key.now es (c.loop-passed.invariant es stand)
    c.loop-passed-test.true c.in_ok-name.name.now _ c.in_ok-name.ensures.same
    c.part-value.result (p.0 ∙ c.in_ok-get.ensures.lookup.0.2 ∙ tail_is c.loop-passed.bytes.now c.in_ok-name.start) p.1 (sym c.if-eq.ensures)

pub returns-in_err-bytes : goal.returns-in_err-bytes
returns-in_err-bytes c es stand =
    let p = c.part-value.ensures in
    absurd (never_cut c.args.self.levels c.args.self.count c.loop-passed._passed c.loop-passed.bytes.now c.args.key.now es (c.loop-passed.invariant es stand)
    c.loop-passed-test.true c.in_ok-name.name.now _ c.in_ok-name.ensures.same
    c.part-value.result (p.0 ∙ c.in_ok-get.ensures.lookup.0.2 ∙ tail_is c.loop-passed.bytes.now c.in_ok-name.start) p.1 c.in_err-bytes.ensures)

pub loop-passed-preserved : goal.loop-passed-preserved
loop-passed-preserved c es stand =
    let p = c.part-value.ensures in
    passed_on c.args.self.levels c.args.self.count c.loop-passed._passed c.loop-passed.bytes.now c.args.key.now es (c.loop-passed.invariant es stand)
    c.loop-passed-test.true c.in_ok-name.name.now _ c.in_ok-name.ensures.same
    c.part-value.result (p.0 ∙ c.in_ok-get.ensures.lookup.0.2 ∙ tail_is c.loop-passed.bytes.now c.in_ok-name.start) p.1 (sym c.if-eq.ensures) c.in_ok-bytes.bytes.now c.in_ok-bytes.ensures

pub returns : goal.returns
returns c es stand = all_passed c.args.self.levels c.args.self.count c.loop-passed._passed c.loop-passed.bytes.now c.args.key.now es (c.loop-passed.invariant es stand) c.loop-passed-test.false
