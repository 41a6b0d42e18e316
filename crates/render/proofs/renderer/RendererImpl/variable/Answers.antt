use Rattle.std.proofs.Common.{Ok, Err, sym, refl, ◌∙◌, arith}
use Rattle.std.proofs.lemmas.Result.{err_from_is_err_and}
use Rattle.machine.specs.Machine.{visible}
use Rattle.reader.specs.Fields.{members_of}
use Rattle.stack.specs.Entries.{entries, room}
use Rattle.store.specs.Stores.{supply, used}
use Rattle.scopes.specs.Searching.{looked_up, paid}
use Rattle.expressions.proofs.Places.{told_few}
use Rattle.expressions.proofs.Pushing.{told_top}
use Rattle.render.specs.Renderers.{given_by}
use Rattle.render.specs.States.{scopes_in}
use Rattle.render.proofs.Growing.{comes_grown, keeps_grown, pushed_ok, same_grown, sound_grown, told_not, variable_pushes, variable_there}
use Rattle.render.proofs.renderer.RendererImpl.variable.Goals as goal

pub unwrap-requires : goal.unwrap-requires
unwrap-requires g c =
    let given = given_by g.S.ValueSource.valued g.C.Callables.named g.F.Formatter.formatted c.args.self.now in
    let s = c.args.state.now in
    let v = c.new-var.result in
    let answer = paid (supply s.store) v.span (looked_up v (visible (scopes_in s given))) (used s.store) in
    let few = told_few s.store c.lookup_var.new.store answer c.in_ok-value.value (entries s.values) c.in_ok-value.ensures
    (variable_there g.K.Sink.sink g.K.Sink.state given s c.source-source.result.now c.source-source.ensures v (members_of c.args.path) c.new-var.ensures.source
    (sym c.new-var.ensures.path ∙ v.whole) c.requires.goes) in
    pushed_ok (room s.values) _ c.push.result (entries s.values) (entries c.push.new.self) (omega (arith, few, c.requires.sound.values_room)) c.push.ensures.pushed

pub returns-in_err-value-clause-same : goal.returns-in_err-value-clause-same
returns-in_err-value-clause-same g c =
    let s = c.args.state.now in
    same_grown s c.lookup_var.new.store s.values (record { same_room = refl; lender = refl }) (entries s.values) c.new-var.result.span _ _
    (told_not s.store c.lookup_var.new.store (entries s.values) (entries s.values) c.new-var.result.span _ c.in_err-value.field-0.0 c.in_err-value.ensures)

pub returns-in_err-value-clause-keeps : goal.returns-in_err-value-clause-keeps
returns-in_err-value-clause-keeps g c =
    let s = c.args.state.now in
    keeps_grown s c.lookup_var.new.store s.values (record { same_room = refl; lender = refl }) (entries s.values) c.new-var.result.span _ _
    (told_not s.store c.lookup_var.new.store (entries s.values) (entries s.values) c.new-var.result.span _ c.in_err-value.field-0.0 c.in_err-value.ensures)

pub returns-clause-sound : goal.returns-clause-sound
returns-clause-sound g c =
    let s = c.args.state.now in
    let pushed = rw c.unwrap.ensures at c.push.ensures.pushed in
    sound_grown s c.lookup_var.new.store c.push.new.self c.push.ensures.kept (entries s.values) c.new-var.result.span _ _
    (told_top s.store c.lookup_var.new.store (entries s.values) (entries c.push.new.self) c.new-var.result.span _ c.in_ok-value.value c.requires.sound.known
    c.in_ok-value.ensures pushed.1) c.requires.sound

pub returns-clause-keeps : goal.returns-clause-keeps
returns-clause-keeps g c =
    let s = c.args.state.now in
    let pushed = rw c.unwrap.ensures at c.push.ensures.pushed in
    keeps_grown s c.lookup_var.new.store c.push.new.self c.push.ensures.kept (entries s.values) c.new-var.result.span _ _
    (told_top s.store c.lookup_var.new.store (entries s.values) (entries c.push.new.self) c.new-var.result.span _ c.in_ok-value.value c.requires.sound.known
    c.in_ok-value.ensures pushed.1)

pub returns-in_err-value-clause-came : goal.returns-in_err-value-clause-came
returns-in_err-value-clause-came g c = λ i named.
    let given = given_by g.S.ValueSource.valued g.C.Callables.named g.F.Formatter.formatted c.args.self.now in
    let s = c.args.state.now in
    let v = c.new-var.result in
    let answer = paid (supply s.store) v.span (looked_up v (visible (scopes_in s given))) (used s.store) in
    let p = err_from_is_err_and c.from_residual.result c.from_residual.ensures.1 in
    let whole = sym c.new-var.ensures.path ∙ v.whole in
    rw (p.1, p.2)
    (comes_grown g.K.Sink.sink g.K.Sink.state given i s (entries s.values) v.span answer c.lookup_var.new.store s.values
    (record { same_room = refl; lender = refl }) c.requires.sound
    (variable_there g.K.Sink.sink g.K.Sink.state given s c.source-source.result.now c.source-source.ensures v (members_of c.args.path) c.new-var.ensures.source
    whole c.requires.goes)
    (variable_pushes g.K.Sink.sink g.K.Sink.state given s c.source-source.result.now c.source-source.ensures v i (members_of c.args.path)
    c.new-var.ensures.source whole named)
    (Err c.in_err-value.field-0.0)
    (told_not s.store c.lookup_var.new.store (entries s.values) (entries s.values) v.span answer c.in_err-value.field-0.0 c.in_err-value.ensures))

pub returns-clause-came : goal.returns-clause-came
returns-clause-came g c = λ i named.
    let given = given_by g.S.ValueSource.valued g.C.Callables.named g.F.Formatter.formatted c.args.self.now in
    let s = c.args.state.now in
    let v = c.new-var.result in
    let answer = paid (supply s.store) v.span (looked_up v (visible (scopes_in s given))) (used s.store) in
    let whole = sym c.new-var.ensures.path ∙ v.whole in
    let pushed = rw c.unwrap.ensures at c.push.ensures.pushed in
    comes_grown g.K.Sink.sink g.K.Sink.state given i s (entries s.values) v.span answer c.lookup_var.new.store c.push.new.self
    c.push.ensures.kept c.requires.sound
    (variable_there g.K.Sink.sink g.K.Sink.state given s c.source-source.result.now c.source-source.ensures v (members_of c.args.path) c.new-var.ensures.source
    whole c.requires.goes)
    (variable_pushes g.K.Sink.sink g.K.Sink.state given s c.source-source.result.now c.source-source.ensures v i (members_of c.args.path)
    c.new-var.ensures.source whole named)
    (Ok tt)
    (told_top s.store c.lookup_var.new.store (entries s.values) (entries c.push.new.self) v.span answer c.in_ok-value.value c.requires.sound.known
    c.in_ok-value.ensures pushed.1)
