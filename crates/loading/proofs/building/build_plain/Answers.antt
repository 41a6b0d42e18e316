use Rattle.std.proofs.Common.{drop}
use Rattle.loading.proofs.Parts.{plain_cut, plain_made, plain_not}
use Rattle.loading.proofs.building.build_plain.Goals as goal

pub returns-in_err-plain-clause-reads : goal.returns-in_err-plain-clause-reads
returns-in_err-plain-clause-reads c =
    plain_cut c.args.store.now c.args.store.now c.args.bytes.now (drop c.args.pos c.args.bytes.now) _ c.in_err-plain.ensures.same

pub returns-in_err-value-clause-reads : goal.returns-in_err-value-clause-reads
returns-in_err-value-clause-reads c =
    rw c.from_residual-in_err-value.ensures
    (plain_not c.args.store.now c.make_plain.new.self c.args.bytes.now (drop c.args.pos c.args.bytes.now) _ _ c.in_ok-plain.ensures.same _ c.in_err-value.ensures.value c.make_plain.ensures)

pub returns-clause-reads : goal.returns-clause-reads
returns-clause-reads c =
    plain_made c.args.store.now c.make_plain.new.self c.args.bytes.now (drop c.args.pos c.args.bytes.now) _ _ c.in_ok-plain.ensures.same _ _ c.in_ok-value.ensures.value c.make_plain.ensures
