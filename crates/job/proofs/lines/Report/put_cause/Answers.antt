use Rattle.std.proofs.Common.{ℕ, ◌++◌, codes, decimal, ap}
use Rattle.job.proofs.Writing.{adds_same, then_wrote, wrote_same}
use Rattle.job.proofs.lines.Report.put_cause.Goals as goal

pub returns : goal.returns
returns c =
    let cause = ap (λ (n : ℕ). codes "refused by cause " ++ (decimal n ++ codes ", ")) c.number-number.ensures in
    then_wrote c.put.result (adds_same cause c.in_ok-write.ensures) (wrote_same c.put.result c.words_of_cause.ensures c.put.ensures)
