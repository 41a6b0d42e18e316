use Rattle.std.proofs.Common.{◌≡◌, ◌++◌, true}
use Rattle.reader.specs.Fields.{members_of}
use Rattle.job.specs.Listing.{path}
use Rattle.job.proofs.lines.Report.put_path.Given as goal

-- the members still to come give the whole
abbrev pub invariant-loop-member : goal.invariant-loop-member
invariant-loop-member l =
    l.self ++ path l.source l.first (members_of l.member-iterator) ≡ l.initial.self ++ path l.source true (members_of l.members)
