use Rattle.std.proofs.Common.{ap, sym, ◌∙◌}
use mathlib.Core.Option.{some}
use Rattle.compiler.specs.Records.{members_span}
use Rattle.reader.proofs.Members.{turn, no_turn}
use Rattle.decoder.proofs.spans.members_span.Goals as goal

pub returns-in_err-first : goal.returns-in_err-first
returns-in_err-first c = rw c.from_residual.ensures (sym (ap members_span c.in_err-first.ensures.steps.0))

pub loop-member-init : goal.loop-member-init
loop-member-init c = rw c.into_iter-member-iterator.ensures.into_iter_gives (ap members_span c.in_ok-first.ensures.steps)

pub loop-member-preserved : goal.loop-member-preserved
loop-member-preserved c =
    let first = turn c.loop-member.member-iterator c.next-in-loop-member.new.self c.next-in-loop-member.result c.in-Some.member c.in-Some.is c.next-in-loop-member.ensures.steps in
    c.loop-member.invariant ∙ rw first

pub returns : goal.returns
returns c =
    let none = no_turn c.loop-member.member-iterator c.next-in-loop-member.new.self c.next-in-loop-member.result c.in-None.is c.next-in-loop-member.ensures.steps in
    ap some c.combine_spans.ensures ∙ sym (c.loop-member.invariant ∙ rw none)
