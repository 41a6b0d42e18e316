use Rattle.std.proofs.lemmas.Result.{err_from_is_err_and}
use Rattle.machine.specs.Promise.{read_out}
use Rattle.templates.specs.Held.{name_at, template_at}
use Rattle.render.specs.Renderers.{given_by}
use Rattle.render.specs.Rendering.{rendering_at}
use Rattle.render.specs.States.{held}
use Rattle.render.proofs.Keeping.{keeps_trans}
use Rattle.render.proofs.Looping.{again, came, faults, finishes, less, same_trans, sets_out, step_goes}
use Rattle.render.proofs.renderer.RendererImpl.render.Goals as goal

pub loop-init : goal.loop-init
loop-init g c =
    let given = given_by g.S.ValueSource.valued g.C.Callables.named g.F.Formatter.formatted c.args.self.now in
    sets_out g.K.Sink.sink g.K.Sink.state given c.args.state.now c.requires.stacks c.requires.found c.requires.fresh c.requires.sound

pub step-requires-clause-sound : goal.step-requires-clause-sound
step-requires-clause-sound g c =
    let given = given_by g.S.ValueSource.valued g.C.Callables.named g.F.Formatter.formatted c.args.self.now in
    c.loop.invariant.sound

pub step-requires-clause-goes : goal.step-requires-clause-goes
step-requires-clause-goes g c =
    let given = given_by g.S.ValueSource.valued g.C.Callables.named g.F.Formatter.formatted c.args.self.now in
    step_goes g.K.Sink.sink g.K.Sink.state given c.args.state.now c.loop.state c.loop.invariant

pub returns-in_err-step-clause-same : goal.returns-in_err-step-clause-same
returns-in_err-step-clause-same g c =
    let given = given_by g.S.ValueSource.valued g.C.Callables.named g.F.Formatter.formatted c.args.self.now in
    same_trans c.args.state.now c.loop.state c.step.new.state c.loop.invariant.same c.step.ensures.same

pub returns-in_err-step-clause-keeps : goal.returns-in_err-step-clause-keeps
returns-in_err-step-clause-keeps g c =
    let given = given_by g.S.ValueSource.valued g.C.Callables.named g.F.Formatter.formatted c.args.self.now in
    keeps_trans c.args.state.now c.loop.state c.step.new.state c.loop.invariant.keeps c.step.ensures.keeps

pub returns-clause-same : goal.returns-clause-same
returns-clause-same g c =
    let given = given_by g.S.ValueSource.valued g.C.Callables.named g.F.Formatter.formatted c.args.self.now in
    same_trans c.args.state.now c.loop.state c.step.new.state c.loop.invariant.same c.step.ensures.same

pub returns-clause-keeps : goal.returns-clause-keeps
returns-clause-keeps g c =
    let given = given_by g.S.ValueSource.valued g.C.Callables.named g.F.Formatter.formatted c.args.self.now in
    keeps_trans c.args.state.now c.loop.state c.step.new.state c.loop.invariant.keeps c.step.ensures.keeps

pub returns-in_err-step-clause-rendered : goal.returns-in_err-step-clause-rendered
returns-in_err-step-clause-rendered g c =
    let given = given_by g.S.ValueSource.valued g.C.Callables.named g.F.Formatter.formatted c.args.self.now in
    let p = err_from_is_err_and c.from_residual.result c.from_residual.ensures.1 in
    rw (p.1, p.2) (faults g.K.Sink.sink g.K.Sink.state given c.args.state.now c.loop.state c.loop.invariant c.step.new.state c.step.ensures.same c.step.ensures.keeps (read_out (rendering_at g.K.Sink.sink given c.args.state.now) (name_at (held c.args.state.now) c.args.state.now.here.template) (template_at (held c.args.state.now) c.args.state.now.here.template) (g.K.Sink.state c.args.state.now.sink.now)) (came g.K.Sink.sink g.K.Sink.state given c.args.state.now c.requires.stacks c.requires.found c.requires.fresh) c.in_err-step.field-0.0 c.in_err-step.ensures.came)

pub loop-smaller : goal.loop-smaller
loop-smaller g c =
    let given = given_by g.S.ValueSource.valued g.C.Callables.named g.F.Formatter.formatted c.args.self.now in
    less g.K.Sink.sink g.K.Sink.state given c.args.state.now c.loop.state c.loop.invariant c.step.new.state c.step.ensures.same c.step.ensures.keeps (rw c.if-branch.true at c.in_ok-step.ensures.came)

pub loop-preserved : goal.loop-preserved
loop-preserved g c =
    let given = given_by g.S.ValueSource.valued g.C.Callables.named g.F.Formatter.formatted c.args.self.now in
    again g.K.Sink.sink g.K.Sink.state given c.args.state.now c.loop.state c.loop.invariant c.step.new.state c.step.ensures.same c.step.ensures.keeps c.in_ok-step.ensures.sound (rw c.if-branch.true at c.in_ok-step.ensures.came)

pub returns-clause-rendered : goal.returns-clause-rendered
returns-clause-rendered g c =
    let given = given_by g.S.ValueSource.valued g.C.Callables.named g.F.Formatter.formatted c.args.self.now in
    finishes g.K.Sink.sink g.K.Sink.state given c.args.state.now c.loop.state c.loop.invariant c.step.new.state c.step.ensures.same c.step.ensures.keeps (read_out (rendering_at g.K.Sink.sink given c.args.state.now) (name_at (held c.args.state.now) c.args.state.now.here.template) (template_at (held c.args.state.now) c.args.state.now.here.template) (g.K.Sink.state c.args.state.now.sink.now)) (came g.K.Sink.sink g.K.Sink.state given c.args.state.now c.requires.stacks c.requires.found c.requires.fresh) (rw c.if-branch.false at c.in_ok-step.ensures.came)
