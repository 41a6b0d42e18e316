use Rattle.std.proofs.Common.{◌≡◌}
use Rattle.packing.specs.Unpacking.{all_inside, member_spans}
use Rattle.reader.specs.Fields.{members_of}
use Rattle.reader.proofs.placed.members_placed.Given as goal

-- what is left of the members gives the whole answer
abbrev pub invariant-loop-member : goal.invariant-loop-member
invariant-loop-member l = all_inside l.source (member_spans (members_of l.member-iterator)) ≡ all_inside l.source (member_spans (members_of l.members))
