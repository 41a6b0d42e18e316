use Rattle.std.proofs.Common.{sym, ap, ◌∙◌}
use Rattle.machine.specs.Machine.{a_with}
use Rattle.meaning.specs.Spans.{text_at}
use Rattle.store.specs.Stores.{value}
use Rattle.templates.specs.Held.{templates_of}
use Rattle.scopes.specs.Entries.{kind_in}
use Rattle.scopes.proofs.Finds.{searches_as}
use Rattle.scopes.proofs.searching.in_state.Goals as goal

pub returns-in-ValueFn : goal.returns-in-ValueFn
returns-in-ValueFn g c = searches_as _ _ c.args.var.now _ (ap (kind_in (templates_of c.args.templates.now) c.args.store.now (g.S.ValueSource.valued c.args.value_source.now)) c.in-ValueFn.is) c.ask_source.ensures

pub returns-in-Scope : goal.returns-in-Scope
returns-in-Scope g c = searches_as _ _ c.args.var.now _ (ap (kind_in (templates_of c.args.templates.now) c.args.store.now (g.S.ValueSource.valued c.args.value_source.now)) c.in-Scope.is) c.in_scope.ensures

pub returns-in-Var : goal.returns-in-Var
returns-in-Var g c =
    searches_as _ _ c.args.var.now _
    (ap (kind_in (templates_of c.args.templates.now) c.args.store.now (g.S.ValueSource.valued c.args.value_source.now)) c.in-Var.is
    ∙ ap (λ name. a_with name (value c.args.store.now c.in-Var.value)) (sym (c.text_under-name.ensures ∙ ap (λ source. text_at source c.in-Var.name) c.source.ensures)))
    c.in_var.ensures

pub returns-in-Loop : goal.returns-in-Loop
returns-in-Loop g c = searches_as _ _ c.args.var.now _ (ap (kind_in (templates_of c.args.templates.now) c.args.store.now (g.S.ValueSource.valued c.args.value_source.now)) c.in-Loop.is) c.in_loop.ensures
