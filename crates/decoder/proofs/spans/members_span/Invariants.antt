use Rattle.std.proofs.Common.{◌≡◌}
use mathlib.Core.Option.{some}
use Rattle.meaning.specs.Spans.{combine, last_member}
use Rattle.reader.specs.Fields.{members_of}
use Rattle.compiler.specs.Records.{members_span}
use Rattle.decoder.proofs.spans.members_span.Given as goal

-- the members still to come give the last one
abbrev pub invariant-loop-member : goal.invariant-loop-member
invariant-loop-member l =
    members_span (members_of l.members) ≡ some (combine l.first.span (last_member l.last (members_of l.member-iterator)).span)
