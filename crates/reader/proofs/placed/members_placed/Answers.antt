use Rattle.std.proofs.Common.{List, ap, sym, ◌∙◌}
use Rattle.meaning.specs.declared.tree.Member.{Member}
use Rattle.packing.specs.Limits.{inside}
use Rattle.packing.specs.Unpacking.{all_inside, member_spans}
use Rattle.reader.proofs.Members.{turn, no_turn}
use Rattle.reader.proofs.Spans.{first_wrong, second_wrong, both_right}
use Rattle.reader.proofs.placed.members_placed.Goals as goal

pub returns-then-not-is_inside : goal.returns-then-not-is_inside
unfolding member_spans
returns-then-not-is_inside c =
    let first = turn c.loop-member.member-iterator c.next.new.self c.next.result c.in-Some.member c.in-Some.is c.next.ensures.steps in
    let step = sym c.loop-member.invariant ∙ ap (λ (ms : List Member). all_inside c.args.source.now (member_spans ms)) first in
    let wrong = c.if-not-is_inside.ensures ∙ ap (inside c.args.source.now) c.access_span.ensures in
    first_wrong _ _ _ step wrong

pub returns-then-not-is_inside-2 : goal.returns-then-not-is_inside-2
unfolding member_spans
returns-then-not-is_inside-2 c =
    let first = turn c.loop-member.member-iterator c.next.new.self c.next.result c.in-Some.member c.in-Some.is c.next.ensures.steps in
    let step = sym c.loop-member.invariant ∙ ap (λ (ms : List Member). all_inside c.args.source.now (member_spans ms)) first in
    let right = c.if-not-is_inside.ensures ∙ ap (inside c.args.source.now) c.access_span.ensures in
    second_wrong _ _ _ _ step right c.if-not-is_inside-2.ensures

pub loop-member-preserved : goal.loop-member-preserved
unfolding member_spans
loop-member-preserved c =
    let first = turn c.loop-member.member-iterator c.next.new.self c.next.result c.in-Some.member c.in-Some.is c.next.ensures.steps in
    let step = sym c.loop-member.invariant ∙ ap (λ (ms : List Member). all_inside c.args.source.now (member_spans ms)) first in
    let right = c.if-not-is_inside.ensures ∙ ap (inside c.args.source.now) c.access_span.ensures in
    both_right _ _ _ _ step right c.if-not-is_inside-2.ensures

pub returns : goal.returns
unfolding member_spans
returns c =
    let none = no_turn c.loop-member.member-iterator c.next.new.self c.next.result c.in-None.is c.next.ensures.steps in
    sym (sym c.loop-member.invariant ∙ ap (λ (ms : List Member). all_inside c.args.source.now (member_spans ms)) none)
