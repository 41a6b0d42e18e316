use Rattle.std.proofs.Common.{ap, ◌∙◌, ap₂}
use Rattle.std.specs.Fmt.{digits}
use Rattle.store.specs.Stores.{charged}
use Rattle.job.specs.Loads.{cost_words}
use Rattle.job.proofs.Writing.{adds_same, then_adds, then_wrote}
use Rattle.job.proofs.lines.Report.put_loaded.Goals as goal

pub returns : goal.returns
unfolding digits
returns c =
    let paid = ap charged c.mark-cells.ensures ∙ c.requires.alone in
    then_wrote c.put_stored.result
    (then_adds c.in_ok-write.ensures (adds_same (ap₂ cost_words c.supply.ensures paid) c.in_ok-put_cost.ensures.adds))
    c.put_stored.ensures
