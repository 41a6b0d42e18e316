use Rattle.std.proofs.Common.{◌≡◌, ◌++◌}
use Rattle.reader.specs.Fields.{members_of}
use Rattle.job.specs.Lines.{marks}
use Rattle.job.proofs.lines.Report.put_members.Given as goal

-- the members still to come give the whole
abbrev pub invariant-loop-member : goal.invariant-loop-member
invariant-loop-member l =
    l.self ++ marks l.source (members_of l.member-iterator) ≡ l.initial.self ++ marks l.source (members_of l.members)
