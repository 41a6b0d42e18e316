use Rattle.job.proofs.Writing.{wrote_same, then_wrote}
use Rattle.job.proofs.Meanings.{variable_words}
use Rattle.job.proofs.lines.Report.put_variable.Goals as goal

pub returns : goal.returns
returns c =
    wrote_same c.put_path.result (variable_words c.args.source.now _ c.requires) (then_wrote c.put_path.result c.in_ok-put.ensures.adds c.put_path.ensures)
