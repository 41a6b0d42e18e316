use Rattle.std.proofs.Common.{◌≡◌, ◌++◌, drop}
use Rattle.job.specs.Listed.{record_lines}
use Rattle.job.proofs.lines.Report.put_program.Given as goal

-- the lines still to come give the whole
abbrev pub invariant-loop-number : goal.invariant-loop-number
invariant-loop-number l =
    l.self ++ record_lines l.source l.tree l.number (drop l.number l.instrs) ≡ l.initial.self ++ record_lines l.source l.tree 0 l.instrs
