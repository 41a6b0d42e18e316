use Rattle.job.proofs.Writing.{then_adds, then_wrote}
use Rattle.job.proofs.lines.Report.put_spans_line.Goals as goal

pub returns : goal.returns
returns c =
    then_wrote c.put.result
    (then_adds (then_adds c.in_ok-put_label.ensures.adds c.in_ok-put_mark.ensures.adds) c.in_ok-put_mark-2.ensures.adds)
    c.put.ensures
