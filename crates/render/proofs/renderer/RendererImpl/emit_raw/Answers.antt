use Rattle.std.proofs.Common.{refl}
use Rattle.std.proofs.lemmas.Result.{err_from_is_err_and}
use Rattle.program.specs.Program.{EmitRaw}
use Rattle.stack.specs.Entries.{entries}
use Rattle.render.specs.Renderers.{given_by}
use Rattle.render.proofs.Emitting.{clear_over, raw_offered, raw_not_offered, goes_to_rest}
use Rattle.render.proofs.Keeping.{keeps_same, keeps_trans}
use Rattle.render.proofs.renderer.RendererImpl.emit_raw.Goals as goal

pub returns-in_err-emit_raw-clause-came : goal.returns-in_err-emit_raw-clause-came
returns-in_err-emit_raw-clause-came g c =
    let p = err_from_is_err_and c.from_residual.result c.from_residual.ensures.1 in
    let given = given_by g.S.ValueSource.valued g.C.Callables.named g.F.Formatter.formatted c.args.self.now in
    rw (p.1, p.2)
    (raw_not_offered g.K.Sink.sink g.K.Sink.state given c.args.state.now c.args.span c.source-source.result.now c.source-source.ensures _
    c.in_err-emit_raw.field-0.0 c.in_err-emit_raw.ensures)

pub end_statement-requires-clause-clear : goal.end_statement-requires-clause-clear
end_statement-requires-clause-clear g c =
    let given = given_by g.S.ValueSource.valued g.C.Callables.named g.F.Formatter.formatted c.args.self.now in
    (clear_over g.K.Sink.sink g.K.Sink.state given (EmitRaw c.args.span) c.args.state.now c.args.state.now.store (entries c.args.state.now.values) _
    c.requires.goes
    (raw_offered g.K.Sink.sink g.K.Sink.state given c.args.state.now c.args.span c.source-source.result.now c.source-source.ensures _ c.in_ok-emit_raw.ensures)).1

pub returns-clause-keeps : goal.returns-clause-keeps
returns-clause-keeps g c = keeps_trans c.args.state.now _ _ (keeps_same c.args.state.now _ refl refl) c.end_statement.ensures.keeps

pub returns-clause-came : goal.returns-clause-came
returns-clause-came g c =
    let given = given_by g.S.ValueSource.valued g.C.Callables.named g.F.Formatter.formatted c.args.self.now in
    goes_to_rest g.K.Sink.sink g.K.Sink.state given (EmitRaw c.args.span) c.args.state.now _ c.end_statement.new.self c.requires.goes
    c.end_statement.ensures.same c.end_statement.ensures.rests
    (raw_offered g.K.Sink.sink g.K.Sink.state given c.args.state.now c.args.span c.source-source.result.now c.source-source.ensures _ c.in_ok-emit_raw.ensures)
