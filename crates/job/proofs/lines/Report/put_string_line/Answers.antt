use Rattle.job.proofs.Writing.{then_adds, then_wrote}
use Rattle.job.proofs.lines.Report.put_string_line.Goals as goal

pub returns : goal.returns
returns c =
    then_wrote c.put-2.result
    (then_adds (then_adds (then_adds c.in_ok-put_label.ensures.adds c.in_ok-put.ensures.adds) c.in_ok-put_quoted.ensures.adds) c.in_ok-put_mark.ensures.adds)
    c.put-2.ensures
