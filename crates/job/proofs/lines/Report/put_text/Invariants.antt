use Rattle.std.proofs.Common.{◌≡◌, ◌++◌, drop}
use Rattle.job.specs.Lines.{escaped}
use Rattle.job.proofs.lines.Report.put_text.Given as goal

-- the bytes still to come give the whole
abbrev pub invariant-loop-byte : goal.invariant-loop-byte
invariant-loop-byte l = l.self ++ escaped (drop l.byte-index l.text) ≡ l.initial.self ++ escaped l.text
