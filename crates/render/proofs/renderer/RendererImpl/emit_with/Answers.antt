use Rattle.std.proofs.Common.{rules, refl, subst, sym}
use Rattle.std.proofs.lemmas.Result.{err_from_is_err_and}
use Rattle.program.specs.Program.{EmitWith}
use Rattle.hosts.specs.Answers.{AllKnown}
use Rattle.hosts.proofs.Arguments.{all_known_over}
use Rattle.expressions.proofs.Calls.{known_under}
use Rattle.stack.specs.Entries.{entries}
use Rattle.render.specs.Renderers.{given_by}
use Rattle.render.proofs.Emitting.{clear_over, goes_to_rest, call_offered, call_not_offered, emits_over}
use Rattle.scopes.proofs.Keeping.{over_layered}
use Rattle.render.proofs.Keeping.{keeps_over, keeps_trans}
use Rattle.render.proofs.Needs.{emit_with_needs}
use Rattle.render.proofs.renderer.RendererImpl.emit_with.Goals as goal

pub emit_with-requires-clause-there : goal.emit_with-requires-clause-there
emit_with-requires-clause-there g c =
    let given = given_by g.S.ValueSource.valued g.C.Callables.named g.F.Formatter.formatted c.args.self.now in
    emit_with_needs g.K.Sink.sink g.K.Sink.state given c.args.state.now c.args.call.name c.args.call.whole c.args.call.arity c.requires.goes

pub returns-in_err-emit_with-clause-same : goal.returns-in_err-emit_with-clause-same
returns-in_err-emit_with-clause-same g c =
    record {
      templates = refl;
      below = search rules;
      scopes = search rules;
      values = c.emit_with.ensures.kept;
      memory = (emits_over _ _ _ _ _ _ _ c.emit_with.ensures.emits).memory;
      buffer = search rules;
      sink = search rules;
    }

pub returns-in_err-emit_with-clause-keeps : goal.returns-in_err-emit_with-clause-keeps
returns-in_err-emit_with-clause-keeps g c = keeps_over c.args.state.now _ (emits_over _ _ _ _ _ _ _ c.emit_with.ensures.emits) refl

pub returns-in_err-emit_with-clause-came : goal.returns-in_err-emit_with-clause-came
returns-in_err-emit_with-clause-came g c =
    let p = err_from_is_err_and c.from_residual.result c.from_residual.ensures.1 in
    let given = given_by g.S.ValueSource.valued g.C.Callables.named g.F.Formatter.formatted c.args.self.now in
    rw (p.1, p.2)
    (call_not_offered g.K.Sink.sink g.K.Sink.state given c.args.state.now c.emit_with.new.store _ c.args.call c.source-source.result.now
    c.source-source.ensures
    (emit_with_needs g.K.Sink.sink g.K.Sink.state given c.args.state.now c.args.call.name c.args.call.whole c.args.call.arity c.requires.goes)
    c.in_err-emit_with.field-0.0 c.in_err-emit_with.ensures.emits)

pub end_statement-requires-clause-sound : goal.end_statement-requires-clause-sound
end_statement-requires-clause-sound g c =
    let over = emits_over c.args.state.now.store c.emit_with.new.store _ _ _ _ _ c.emit_with.ensures.emits in
    record {
      here_held = c.requires.sound.here_held;
      below_held = c.requires.sound.below_held;
      layered = over_layered _ c.args.state.now.store c.emit_with.new.store (entries c.args.state.now.scopes) over c.requires.sound.layered;
      known = subst (AllKnown c.emit_with.new.store) (sym c.emit_with.ensures.left)
          (all_known_over c.args.state.now.store c.emit_with.new.store _ over
          (known_under c.args.state.now.store c.args.call.arity (entries c.args.state.now.values) c.requires.sound.known));
      values_room = search rules;
      scopes_room = c.requires.sound.scopes_room;
      open_room = c.requires.sound.open_room;
      text_room = search rules;
    }

pub end_statement-requires-clause-scoped : goal.end_statement-requires-clause-scoped
end_statement-requires-clause-scoped g c =
    let given = given_by g.S.ValueSource.valued g.C.Callables.named g.F.Formatter.formatted c.args.self.now in
    let there = emit_with_needs g.K.Sink.sink g.K.Sink.state given c.args.state.now c.args.call.name c.args.call.whole c.args.call.arity c.requires.goes in
    (clear_over g.K.Sink.sink g.K.Sink.state given (EmitWith c.args.call.name c.args.call.arity c.args.call.whole) c.args.state.now
    c.emit_with.new.store (entries c.emit_with.new.values) _ c.requires.goes
    (call_offered g.K.Sink.sink g.K.Sink.state given c.args.state.now c.emit_with.new.store _ c.args.call c.source-source.result.now
    c.source-source.ensures there (entries c.emit_with.new.values) c.emit_with.ensures.left c.requires.sound.layered c.requires.sound.known
    (emits_over _ _ _ _ _ _ _ c.emit_with.ensures.emits) c.in_ok-emit_with.ensures.emits)).0

pub end_statement-requires-clause-clear : goal.end_statement-requires-clause-clear
end_statement-requires-clause-clear g c =
    let given = given_by g.S.ValueSource.valued g.C.Callables.named g.F.Formatter.formatted c.args.self.now in
    let there = emit_with_needs g.K.Sink.sink g.K.Sink.state given c.args.state.now c.args.call.name c.args.call.whole c.args.call.arity c.requires.goes in
    (clear_over g.K.Sink.sink g.K.Sink.state given (EmitWith c.args.call.name c.args.call.arity c.args.call.whole) c.args.state.now
    c.emit_with.new.store (entries c.emit_with.new.values) _ c.requires.goes
    (call_offered g.K.Sink.sink g.K.Sink.state given c.args.state.now c.emit_with.new.store _ c.args.call c.source-source.result.now
    c.source-source.ensures there (entries c.emit_with.new.values) c.emit_with.ensures.left c.requires.sound.layered c.requires.sound.known
    (emits_over _ _ _ _ _ _ _ c.emit_with.ensures.emits) c.in_ok-emit_with.ensures.emits)).1

pub returns-clause-keeps : goal.returns-clause-keeps
returns-clause-keeps g c =
    keeps_trans c.args.state.now _ _ (keeps_over c.args.state.now _ (emits_over _ _ _ _ _ _ _ c.emit_with.ensures.emits) refl)
    c.end_statement.ensures.keeps

pub returns-clause-came : goal.returns-clause-came
returns-clause-came g c =
    let given = given_by g.S.ValueSource.valued g.C.Callables.named g.F.Formatter.formatted c.args.self.now in
    let there = emit_with_needs g.K.Sink.sink g.K.Sink.state given c.args.state.now c.args.call.name c.args.call.whole c.args.call.arity c.requires.goes in
    goes_to_rest g.K.Sink.sink g.K.Sink.state given (EmitWith c.args.call.name c.args.call.arity c.args.call.whole) c.args.state.now _
    c.end_statement.new.self c.requires.goes c.end_statement.ensures.same c.end_statement.ensures.rests
    (call_offered g.K.Sink.sink g.K.Sink.state given c.args.state.now c.emit_with.new.store _ c.args.call c.source-source.result.now
    c.source-source.ensures there (entries c.emit_with.new.values) c.emit_with.ensures.left c.requires.sound.layered c.requires.sound.known
    (emits_over _ _ _ _ _ _ _ c.emit_with.ensures.emits) c.in_ok-emit_with.ensures.emits)
