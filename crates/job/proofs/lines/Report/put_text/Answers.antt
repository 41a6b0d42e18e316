use Rattle.std.proofs.Common.{arith}
use Rattle.job.proofs.Writing.{row_more, row_whole, escaped_on, escaped_end}
use Rattle.job.proofs.lines.Report.put_text.Goals as goal

pub loop-byte-preserved : goal.loop-byte-preserved
loop-byte-preserved c =
    row_more _ _ _ _ _ _ (escaped_on c.args.text.now c.loop-byte.byte-index (omega arith)) c.in_ok-put_escaped.ensures.adds c.loop-byte.invariant

pub returns : goal.returns
returns c = record { adds = row_whole _ _ _ _ (escaped_end c.args.text.now c.loop-byte.byte-index (omega arith)) c.loop-byte.invariant }
