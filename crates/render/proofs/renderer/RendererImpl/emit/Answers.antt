use Rattle.std.proofs.Common.{refl}
use Rattle.std.proofs.lemmas.Result.{err_from_is_err_and}
use Rattle.program.specs.Program.{Emit}
use Rattle.stack.specs.Entries.{entries}
use Rattle.render.specs.Renderers.{given_by}
use Rattle.render.proofs.Emitting.{clear_over, goes_to_rest, value_offered, value_not_offered}
use Rattle.render.proofs.Keeping.{keeps_same, keeps_trans}
use Rattle.render.proofs.Needs.{emit_needs}
use Rattle.render.proofs.renderer.RendererImpl.emit.Goals as goal

pub returns-in_err-emit-clause-came : goal.returns-in_err-emit-clause-came
returns-in_err-emit-clause-came g c =
    let p = err_from_is_err_and c.from_residual.result c.from_residual.ensures.1 in
    let given = given_by g.S.ValueSource.valued g.C.Callables.named g.F.Formatter.formatted c.args.self.now in
    rw (p.1, p.2)
    (value_not_offered g.K.Sink.sink g.K.Sink.state given c.args.state.now _ c.in_err-emit.field-0.0
    (emit_needs g.K.Sink.sink g.K.Sink.state given c.args.state.now c.requires.goes) c.in_err-emit.ensures.emits)

pub end_statement-requires-clause-scoped : goal.end_statement-requires-clause-scoped
end_statement-requires-clause-scoped g c =
    let given = given_by g.S.ValueSource.valued g.C.Callables.named g.F.Formatter.formatted c.args.self.now in
    (clear_over g.K.Sink.sink g.K.Sink.state given Emit c.args.state.now c.args.state.now.store (entries c.emit.new.values) _ c.requires.goes
    (value_offered g.K.Sink.sink g.K.Sink.state given c.args.state.now _ (entries c.emit.new.values)
    (emit_needs g.K.Sink.sink g.K.Sink.state given c.args.state.now c.requires.goes) c.emit.ensures.left c.in_ok-emit.ensures.emits)).0

pub end_statement-requires-clause-clear : goal.end_statement-requires-clause-clear
end_statement-requires-clause-clear g c =
    let given = given_by g.S.ValueSource.valued g.C.Callables.named g.F.Formatter.formatted c.args.self.now in
    (clear_over g.K.Sink.sink g.K.Sink.state given Emit c.args.state.now c.args.state.now.store (entries c.emit.new.values) _ c.requires.goes
    (value_offered g.K.Sink.sink g.K.Sink.state given c.args.state.now _ (entries c.emit.new.values)
    (emit_needs g.K.Sink.sink g.K.Sink.state given c.args.state.now c.requires.goes) c.emit.ensures.left c.in_ok-emit.ensures.emits)).1

pub returns-clause-keeps : goal.returns-clause-keeps
returns-clause-keeps g c = keeps_trans c.args.state.now _ _ (keeps_same c.args.state.now _ refl refl) c.end_statement.ensures.keeps

pub returns-clause-came : goal.returns-clause-came
returns-clause-came g c =
    let given = given_by g.S.ValueSource.valued g.C.Callables.named g.F.Formatter.formatted c.args.self.now in
    goes_to_rest g.K.Sink.sink g.K.Sink.state given Emit c.args.state.now _ c.end_statement.new.self c.requires.goes
    c.end_statement.ensures.same c.end_statement.ensures.rests
    (value_offered g.K.Sink.sink g.K.Sink.state given c.args.state.now _ (entries c.emit.new.values)
    (emit_needs g.K.Sink.sink g.K.Sink.state given c.args.state.now c.requires.goes) c.emit.ensures.left c.in_ok-emit.ensures.emits)
