use Rattle.std.proofs.Common.{ap}
use Rattle.reader.proofs.Members.{turn, no_turn}
use Rattle.job.specs.Lines.{marks}
use Rattle.job.proofs.Writing.{row_more, row_whole}
use Rattle.job.proofs.lines.Report.put_members.Goals as goal

pub loop-member-preserved : goal.loop-member-preserved
loop-member-preserved c =
    let first = turn c.loop-member.member-iterator c.next.new.self c.next.result c.in-Some.member c.in-Some.is c.next.ensures.steps in
    row_more _ _ _ _ _ _ (ap (marks c.args.source.now) first) c.in_ok-put_mark.ensures.adds c.loop-member.invariant

pub returns : goal.returns
returns c =
    let none = no_turn c.loop-member.member-iterator c.next.new.self c.next.result c.in-None.is c.next.ensures.steps in
    record { adds = row_whole _ _ _ _ (ap (marks c.args.source.now) none) c.loop-member.invariant }
