use Rattle.std.proofs.Common.{ap, ◌∙◌, arith}
use Rattle.store.specs.Kinds.{kind_of}
use Rattle.store.proofs.Stores.{known_over, over_same}
use Rattle.sources.proofs.PotsMade.{pots_fall, pot_falls, pot_added, pots_done, one_pot}
use Rattle.sources.proofs.making.make_pots.Goals as goal

pub loop-bytes-init : goal.loop-bytes-init
loop-bytes-init c = c.in_ok-whole.ensures.1

pub returns-in_err-pot : goal.returns-in_err-pot
returns-in_err-pot c =
    let here = c.loop-bytes in
    pots_fall c.args.store.now c.args.records.now here.bytes-index c.loop-bytes-test.true here.store here.whole here.invariant c.make_pot.new.store one_pot _ (omega arith) (omega arith) c.from_residual-in_err-pot.ensures.0 c.in_err-pot.ensures

pub push-requires-clause-list_known : goal.push-requires-clause-list_known
push-requires-clause-list_known c = known_over c.loop-bytes.store c.make_pot.new.store c.loop-bytes.whole c.in_ok-pot.ensures.1.grown.over c.loop-bytes.invariant.known

pub push-requires-clause-is_list : goal.push-requires-clause-is_list
push-requires-clause-is_list c = ap kind_of (c.in_ok-pot.ensures.1.grown.over.keeps c.loop-bytes.whole c.loop-bytes.invariant.known ∙ c.loop-bytes.invariant.means)

pub returns-in_err-whole-2 : goal.returns-in_err-whole-2
returns-in_err-whole-2 c =
    let here = c.loop-bytes in
    let fell = c.in_err-whole-2.ensures in
    pot_falls c.args.store.now c.args.records.now here.bytes-index c.loop-bytes-test.true here.store here.whole here.invariant
    c.make_pot.new.store _ c.in_ok-pot.pot _ c.of_record.ensures c.in_ok-pot.ensures.1 c.push.new.self _ c.from_residual-in_err-whole-2.ensures.0 (fell.0, over_same c.make_pot.new.store c.push.new.self fell.1)

pub loop-bytes-preserved : goal.loop-bytes-preserved
loop-bytes-preserved c =
    let here = c.loop-bytes in
    pot_added c.args.store.now c.args.records.now here.bytes-index c.loop-bytes-test.true here.store here.whole here.invariant
    c.make_pot.new.store _ c.in_ok-pot.pot _ c.of_record.ensures c.in_ok-pot.ensures.1 c.push.new.self _ c.in_ok-whole-2.ensures.1

pub returns : goal.returns
returns c = pots_done c.args.store.now c.loop-bytes.store c.args.records.now c.loop-bytes.bytes-index c.loop-bytes.whole (omega arith) c.loop-bytes.invariant
