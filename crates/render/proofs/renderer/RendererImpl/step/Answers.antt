use Rattle.std.proofs.Common.{◌≡◌, ◌∙◌, ap, Ok, Some, sym, refl, rules}
use Rattle.meaning.specs.Names.{name_of}
use Rattle.templates.specs.Held.{name_at}
use Rattle.render.specs.States.{held, opening}
use Rattle.std.proofs.lemmas.Result.{err_from_is_err_and}
use Rattle.meaning.specs.FaultRecords.{fault_of}
use Rattle.meaning.specs.Fault.{in_template}
use Rattle.meaning.specs.Value.{Text}
use Rattle.render.specs.declared.renderer.executing.Turn.TheVariants.{GoesOn, Opens}
use Rattle.render.specs.Renderers.{given_by}
use Rattle.render.proofs.Keeping.{keeps_same, keeps_trans}
use Rattle.render.proofs.Needs.{close_needs, enter_needs}
use Rattle.render.proofs.Stepping.{advanced, closes_so, goes_there, named_fault, steps_out, to_open, went_on}
use Rattle.render.proofs.renderer.RendererImpl.step.Goals as goal

pub close-requires-clause-ends : goal.close-requires-clause-ends
close-requires-clause-ends g c =
    let given = given_by g.S.ValueSource.valued g.C.Callables.named g.F.Formatter.formatted c.args.self.now in
    let s = c.args.state.now in
    close_needs g.K.Sink.sink g.K.Sink.state given s (λ x. c.requires.goes (steps_out g.K.Sink.sink g.K.Sink.state given s c.in_default.ensures.reads c.requires.goes ∙ x))

pub returns-in_default-clause-came : goal.returns-in_default-clause-came
returns-in_default-clause-came g c =
    let given = given_by g.S.ValueSource.valued g.C.Callables.named g.F.Formatter.formatted c.args.self.now in
    let s = c.args.state.now in
    closes_so g.K.Sink.sink g.K.Sink.state given s c.close.result c.close.new.self (steps_out g.K.Sink.sink g.K.Sink.state given s c.in_default.ensures.reads c.requires.goes) c.close.ensures.closes

pub execute-requires-clause-goes : goal.execute-requires-clause-goes
execute-requires-clause-goes g c =
    let given = given_by g.S.ValueSource.valued g.C.Callables.named g.F.Formatter.formatted c.args.self.now in
    let s = c.args.state.now in
    goes_there g.K.Sink.sink g.K.Sink.state given s c.in-Some.instr c.in-Some.ensures.reads c.requires.goes

pub enter-requires-clause-room : goal.enter-requires-clause-room
enter-requires-clause-room g c =
    let given = given_by g.S.ValueSource.valued g.C.Callables.named g.F.Formatter.formatted c.args.self.now in
    let s = c.args.state.now in
    let same : c.execute.result ≡ Ok (Opens c.in-Ok-Opens.template c.in-Ok-Opens.scoped) = search rules in
    enter_needs g.K.Sink.sink g.K.Sink.state given c.execute.new.state c.in-Ok-Opens.template c.in-Ok-Opens.scoped (λ x. c.requires.goes ((to_open g.K.Sink.sink g.K.Sink.state given s c.in-Some.instr c.in-Some.ensures.reads c.execute.new.state c.execute.result c.in-Ok-Opens.template c.in-Ok-Opens.scoped same c.execute.ensures.came).1 ∙ x))

pub returns-in-Ok-GoesOn-clause-keeps : goal.returns-in-Ok-GoesOn-clause-keeps
returns-in-Ok-GoesOn-clause-keeps g c =
    let given = given_by g.S.ValueSource.valued g.C.Callables.named g.F.Formatter.formatted c.args.self.now in
    let s = c.args.state.now in
    keeps_trans s (advanced g.K.Sink.sink g.K.Sink.state given s) _ (keeps_same s (advanced g.K.Sink.sink g.K.Sink.state given s) refl refl) c.execute.ensures.keeps

pub returns-in-Err-clause-keeps : goal.returns-in-Err-clause-keeps
returns-in-Err-clause-keeps g c =
    let given = given_by g.S.ValueSource.valued g.C.Callables.named g.F.Formatter.formatted c.args.self.now in
    let s = c.args.state.now in
    keeps_trans s (advanced g.K.Sink.sink g.K.Sink.state given s) _ (keeps_same s (advanced g.K.Sink.sink g.K.Sink.state given s) refl refl) c.execute.ensures.keeps

pub returns-in_err-enter-in-Ok-Opens-clause-keeps : goal.returns-in_err-enter-in-Ok-Opens-clause-keeps
returns-in_err-enter-in-Ok-Opens-clause-keeps g c =
    let given = given_by g.S.ValueSource.valued g.C.Callables.named g.F.Formatter.formatted c.args.self.now in
    let s = c.args.state.now in
    keeps_trans s (advanced g.K.Sink.sink g.K.Sink.state given s) _ (keeps_same s (advanced g.K.Sink.sink g.K.Sink.state given s) refl refl) (keeps_trans (advanced g.K.Sink.sink g.K.Sink.state given s) c.execute.new.state c.enter.new.self c.execute.ensures.keeps c.enter.ensures.keeps)

pub returns-in_ok-enter-in-Ok-Opens-clause-keeps : goal.returns-in_ok-enter-in-Ok-Opens-clause-keeps
returns-in_ok-enter-in-Ok-Opens-clause-keeps g c =
    let given = given_by g.S.ValueSource.valued g.C.Callables.named g.F.Formatter.formatted c.args.self.now in
    let s = c.args.state.now in
    keeps_trans s (advanced g.K.Sink.sink g.K.Sink.state given s) _ (keeps_same s (advanced g.K.Sink.sink g.K.Sink.state given s) refl refl) (keeps_trans (advanced g.K.Sink.sink g.K.Sink.state given s) c.execute.new.state c.enter.new.self c.execute.ensures.keeps c.enter.ensures.keeps)

pub returns-in-Ok-GoesOn-clause-came : goal.returns-in-Ok-GoesOn-clause-came
returns-in-Ok-GoesOn-clause-came g c =
    let given = given_by g.S.ValueSource.valued g.C.Callables.named g.F.Formatter.formatted c.args.self.now in
    let s = c.args.state.now in
    let same : c.execute.result ≡ Ok GoesOn = search rules in
    went_on g.K.Sink.sink g.K.Sink.state given s c.in-Some.instr c.in-Some.ensures.reads c.execute.new.state c.execute.result same c.execute.ensures.came

pub returns-in_err-enter-in-Ok-Opens-clause-came : goal.returns-in_err-enter-in-Ok-Opens-clause-came
returns-in_err-enter-in-Ok-Opens-clause-came g c =
    let given = given_by g.S.ValueSource.valued g.C.Callables.named g.F.Formatter.formatted c.args.self.now in
    let s = c.args.state.now in
    let same : c.execute.result ≡ Ok (Opens c.in-Ok-Opens.template c.in-Ok-Opens.scoped) = search rules in
    let p = err_from_is_err_and c.from_residual.result c.from_residual.ensures.1 in
    rw (p.1, p.2) (_, (to_open g.K.Sink.sink g.K.Sink.state given s c.in-Some.instr c.in-Some.ensures.reads c.execute.new.state c.execute.result c.in-Ok-Opens.template c.in-Ok-Opens.scoped same c.execute.ensures.came).1 ∙ (λ j. opening g.K.Sink.sink g.K.Sink.state given (sym c.in-Ok-Opens.template-is j) (sym c.in-Ok-Opens.scoped-is j) c.execute.new.state) ∙ c.in_err-enter-in-Ok-Opens.ensures.opens given refl)

pub returns-in_ok-enter-in-Ok-Opens-clause-came : goal.returns-in_ok-enter-in-Ok-Opens-clause-came
returns-in_ok-enter-in-Ok-Opens-clause-came g c =
    let given = given_by g.S.ValueSource.valued g.C.Callables.named g.F.Formatter.formatted c.args.self.now in
    let s = c.args.state.now in
    let same : c.execute.result ≡ Ok (Opens c.in-Ok-Opens.template c.in-Ok-Opens.scoped) = search rules in
    (to_open g.K.Sink.sink g.K.Sink.state given s c.in-Some.instr c.in-Some.ensures.reads c.execute.new.state c.execute.result c.in-Ok-Opens.template c.in-Ok-Opens.scoped same c.execute.ensures.came).1 ∙ (λ j. opening g.K.Sink.sink g.K.Sink.state given (sym c.in-Ok-Opens.template-is j) (sym c.in-Ok-Opens.scoped-is j) c.execute.new.state) ∙ c.in_ok-enter-in-Ok-Opens.ensures.opens given refl

pub returns-in-Err-clause-came : goal.returns-in-Err-clause-came
returns-in-Err-clause-came g c =
    let given = given_by g.S.ValueSource.valued g.C.Callables.named g.F.Formatter.formatted c.args.self.now in
    let s = c.args.state.now in
    let name : name_of c.name.result ≡ name_at (held s) s.here.template = search rules in
    named_fault g.K.Sink.sink g.K.Sink.state given s c.in-Some.instr c.in-Some.ensures.reads c.execute.new.state c.in-Err.fault
    (record { cause = c.in-Err.fault.cause; template = Some c.name.result; span = c.in-Err.fault.span; detail = c.in-Err.fault.detail })
    (ap (λ (t : Text). in_template t (fault_of c.in-Err.fault)) name) c.in-Err.ensures.came
