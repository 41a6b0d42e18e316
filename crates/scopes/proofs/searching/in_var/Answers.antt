use Rattle.std.proofs.Common.{sym, ap, ◌∙◌}
use Rattle.std.specs.Str.{bytes_eq as same_text}
use Rattle.store.specs.Stores.{value}
use Rattle.scopes.specs.Searching.{var_of}
use Rattle.scopes.proofs.Finds.{answers_as, found_under_name}
use Rattle.scopes.proofs.searching.in_var.Goals as goal

pub returns-then-eq : goal.returns-then-eq
returns-then-eq c = λ outer.
    let v = c.args.var.now in
    let name = c.args.name.now in
    answers_as _ _ _ _ _
    (found_under_name v.source.now outer (var_of v) name (value c.args.store.now c.args.value) (ap (same_text name) (sym c.name.ensures) ∙ sym c.eq.ensures ∙ c.if-eq.true))
    (c.walk_rest.ensures _)
