use Rattle.std.proofs.Common.{Err, ap, ◌∙◌}
use Rattle.std.proofs.lemmas.Result.{err_from_is_err_and}
use Rattle.meaning.specs.Charge.{cost}
use Rattle.meaning.specs.Scopes.{loop_value, no_further}
use Rattle.reader.specs.Fields.{members_of}
use Rattle.reader.proofs.Members.{turn as first, no_turn}
use Rattle.scopes.specs.Looping.{member_of, turn_of}
use Rattle.scopes.proofs.Built.{made_builds}
use Rattle.scopes.proofs.Finds.{answers_as, has_as, had_already, loop_alone, loop_with, member_stops, none_further, one_further}
use Rattle.scopes.proofs.loop_value.lookup_loop.Goals as goal

pub returns-in_default : goal.returns-in_default
returns-in_default c = λ current outward.
    let v = c.args.var.now in
    let loop = loop_value (turn_of c.args.turn current) in
    let none = no_turn v.rest c.next.new.self c.next.result c.in_default.is c.next.ensures.steps in
    answers_as _ _ _ outward _ (loop_alone c.args.store.now v.source.now v.span loop (members_of v.rest) none)
    (c.made_for.ensures _ _ _ _ outward (c.make.ensures current))

pub returns-in_err-found : goal.returns-in_err-found
returns-in_err-found c = λ current outward.
    let s = c.args.store.now in
    let v = c.args.var.now in
    let m = c.in-Some.member in
    let loop = loop_value (turn_of c.args.turn current) in
    let others = members_of c.next.new.self in
    let one = first v.rest c.next.new.self c.next.result m c.in-Some.is c.next.ensures.steps in
    let p = err_from_is_err_and c.from_residual.result c.from_residual.ensures.1 in
    rw (p.1 ∙ ap Err p.2)
    (has_as _ _ _ (Err c.in_err-found.field-0.0) (loop_with s v.source.now v.span loop (members_of v.rest) others m one)
    (member_stops s v.source.now v.span _ others _ (c.in_err-found.ensures current)))

pub returns-in_err-no_further : goal.returns-in_err-no_further
returns-in_err-no_further c = λ current outward.
    let s = c.args.store.now in
    let v = c.args.var.now in
    let m = c.in-Some.member in
    let loop = loop_value (turn_of c.args.turn current) in
    let others = members_of c.next.new.self in
    let one = first v.rest c.next.new.self c.next.result m c.in-Some.is c.next.ensures.steps in
    let found = had_already s v.source.now v.span _ c.in_ok-found.found (c.in_ok-found.ensures current) in
    let p = err_from_is_err_and c.from_residual-in_err-no_further.result c.from_residual-in_err-no_further.ensures.1 in
    rw (p.1 ∙ ap Err p.2)
    (has_as _ _ _ (Err c.in_err-no_further.field-0.0)
    (loop_with s v.source.now v.span loop (members_of v.rest) others m one ∙ ap (λ o. no_further v.source.now o others) found)
    (one_further s v.source.now v.span _ others (member_of c.in_ok-found.found) _ _ c.kind.ensures c.in_err-no_further.ensures))

pub returns : goal.returns
returns c = λ current outward.
    let s = c.args.store.now in
    let v = c.args.var.now in
    let m = c.in-Some.member in
    let loop = loop_value (turn_of c.args.turn current) in
    let others = members_of c.next.new.self in
    let one = first v.rest c.next.new.self c.next.result m c.in-Some.is c.next.ensures.steps in
    let found = had_already s v.source.now v.span _ c.in_ok-found.found (c.in_ok-found.ensures current) in
    answers_as _ _ _ outward _
    (loop_with s v.source.now v.span loop (members_of v.rest) others m one
    ∙ none_further s v.source.now v.span _ others _ _ c.in_ok-no_further.ensures
    ∙ found)
    (c.made_for-2.ensures _ _ _ (member_of c.in_ok-found.found) outward (made_builds _ _ (cost (member_of c.in_ok-found.found)) _ _ c.make-2.ensures))
