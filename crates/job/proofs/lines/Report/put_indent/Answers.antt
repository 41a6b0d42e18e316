use Rattle.std.proofs.Common.{arith}
use Rattle.job.proofs.Writing.{row_more, row_whole, indent_on, indent_end}
use Rattle.job.proofs.lines.Report.put_indent.Goals as goal

pub loop-level-preserved : goal.loop-level-preserved
loop-level-preserved c =
    row_more _ _ _ _ _ _ (indent_on c.args.depth c.loop-level._level (omega arith)) c.in_ok-put.ensures.adds c.loop-level.invariant

pub returns : goal.returns
returns c = record { adds = row_whole _ _ _ _ (indent_end c.args.depth c.loop-level._level (omega arith)) c.loop-level.invariant }
