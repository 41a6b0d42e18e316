use Rattle.std.proofs.Common.{List, ◌∷◌, ap, ◌∙◌}
use Rattle.stack.specs.Entries.{entries}
use Rattle.hosts.specs.declared.answer.Argument.{Argument}
use Rattle.expressions.proofs.Calls.{known_newest, known_under}
use Rattle.expressions.proofs.Pushing.{told_top}
use Rattle.expressions.proofs.calling.apply.Goals as goal

pub answer-requires : goal.answer-requires
answer-requires g c = known_newest c.args.store.now c.args.call.arity (entries c.args.values.now) c.in-Some.args.now c.in-Some.ensures.1 c.requires.known

pub returns-clause-pushes : goal.returns-clause-pushes
returns-clause-pushes g c =
    let before = c.args.store.now in
    let values = entries c.args.values.now in
    let answer : Argument = record { value = c.in_ok-value.value; span = c.args.call.whole } in
    let pushed = rw c.unwrap.ensures at c.push.ensures.pushed in
    told_top before c.answer.new.store _ (entries c.push.new.self) c.args.call.whole _ c.in_ok-value.value (known_under before c.args.call.arity values c.requires.known)
    (rw c.in-Some.ensures.1 at c.in_ok-value.ensures)
    (pushed.1 ∙ ap (λ (under : List Argument). answer ∷ under) c.discard.ensures.left)
