use Rattle.store.specs.Stores.{value}
use Rattle.scopes.specs.Searching.{var_of}
use Rattle.scopes.proofs.Finds.{answers_as, found_in_scope}
use Rattle.scopes.proofs.searching.in_scope.Goals as goal

pub returns-in-Ok-Some : goal.returns-in-Ok-Some
returns-in-Ok-Some c = λ outer.
    let s = c.args.store.now in
    let v = c.args.var.now in
    answers_as _ _ _ _ _
    (found_in_scope v.source.now outer (var_of v) s (value s c.args.scope) c.in-Ok-Some.part (rw c.in-Ok-Some.field-0-is at c.in-Ok-Some.ensures))
    (c.walk_rest.ensures _)
