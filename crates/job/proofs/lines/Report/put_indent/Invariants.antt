use Rattle.std.proofs.Common.{◌≡◌, ◌-◌, ◌++◌}
use Rattle.job.specs.Lines.{indent}
use Rattle.job.proofs.lines.Report.put_indent.Given as goal

-- the levels still to come give the whole
abbrev pub invariant-loop-level : goal.invariant-loop-level
invariant-loop-level l = l.self ++ indent (l.depth - l._level) ≡ l.initial.self ++ indent l.depth
