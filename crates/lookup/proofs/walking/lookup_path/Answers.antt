use Rattle.std.proofs.Common.{Err, sym, ap, ◌∙◌}
use Rattle.std.proofs.lemmas.Result.{err_from_is_err_and}
use Rattle.meaning.specs.Scopes.{ask}
use Rattle.meaning.specs.Walk.{part, walk}
use Rattle.reader.specs.Fields.{members_of}
use Rattle.reader.proofs.Members.{turn as first}
use Rattle.store.specs.Stores.{value}
use Rattle.lookup.proofs.Walks.{tells_as, turn, turn_fault}
use Rattle.lookup.proofs.walking.lookup_path.Goals as goal

pub returns-in_err-part : goal.returns-in_err-part
returns-in_err-part c =
    let s = c.args.store.now in
    let by = ask c.args.source.now in
    let v = value s c.loop-member.here in
    let m = c.in-Some.member in
    let others = members_of c.next.new.self in
    let one = first c.loop-member.member-iterator c.next.new.self c.next.result m c.in-Some.is c.next.ensures.steps in
    let p = err_from_is_err_and c.from_residual.result c.from_residual.ensures.1 in
    tells_as s
    (sym c.loop-member.invariant.1 ∙ ap (walk by v) one ∙ turn by v m others)
    (p.1 ∙ ap Err p.2)
    (turn_fault s (λ w. walk by w others) (part by v m) c.in_err-part.field-0.0 c.in_err-part.ensures)
