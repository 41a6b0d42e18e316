use Rattle.std.specs.Fmt.{digits}
use Rattle.meaning.specs.FaultRecords.{fault_of}
use Rattle.store.specs.Stores.{charged}
use Rattle.values.specs.Costs.{charge_of}
use Rattle.job.proofs.Loads.{fault_words, full_words}
use Rattle.job.proofs.Writing.{then_wrote, wrote_same}
use Rattle.job.proofs.lines.Report.put_not_loaded.Goals as goal

pub returns-in-Ok : goal.returns-in-Ok
returns-in-Ok c =
    wrote_same c.put_cost.result
    (full_words (charged c.args.lent) c.args.packed.now (fault_of c.args.fault) c.requires (charge_of c.in-Ok.cost) c.in-Ok.ensures)
    (then_wrote c.put_cost.result c.in_ok-put_cause.ensures.adds c.put_cost.ensures)

pub returns-in-Err : goal.returns-in-Err
unfolding digits
returns-in-Err c =
    wrote_same c.writeln.result
    (fault_words (charged c.args.lent) c.args.packed.now (fault_of c.args.fault) c.requires (fault_of c.in-Err.field-0) c.in-Err.ensures)
    (then_wrote c.writeln.result c.in_ok-put_cause.ensures.adds (record { adds = c.writeln.ensures }))
