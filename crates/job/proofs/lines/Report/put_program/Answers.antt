use Rattle.std.proofs.Common.{arith}
use Rattle.job.proofs.Meanings.{meant_at, record_lines_on, record_lines_end}
use Rattle.job.proofs.Writing.{row_more, row_whole, then_adds}
use Rattle.job.proofs.lines.Report.put_program.Goals as goal

pub put_instr_line-requires : goal.put_instr_line-requires
put_instr_line-requires c = meant_at c.args.tree.now c.args.instrs.now c.requires.code c.requires.mean c.loop-number.number _ (omega arith)

pub loop-number-preserved : goal.loop-number-preserved
loop-number-preserved c =
    row_more _ _ _ _ _ _ (record_lines_on c.args.source.now c.args.tree.now c.loop-number.number c.args.instrs.now _ (omega arith)) c.in_ok-put_instr_line.ensures.adds c.loop-number.invariant

pub returns : goal.returns
returns c =
    record { adds = then_adds c.in_ok-writeln.ensures (row_whole _ _ _ _ (record_lines_end c.args.source.now c.args.tree.now c.loop-number.number c.args.instrs.now (omega arith)) c.loop-number.invariant) }
