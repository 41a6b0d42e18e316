use Rattle.std.specs.Fmt.{digits}
use Rattle.job.proofs.Writing.{then_adds, then_wrote}
use Rattle.job.proofs.lines.Report.put_too_many.Goals as goal

pub returns : goal.returns
unfolding digits
returns c =
    then_wrote c.writeln.result (then_adds c.in_ok-put.ensures.adds c.in_ok-put_cause.ensures.adds) (record { adds = c.writeln.ensures })
