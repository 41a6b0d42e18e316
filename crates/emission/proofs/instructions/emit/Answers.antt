use Rattle.std.proofs.lemmas.Result.{err_from_is_err_and}
use Rattle.stack.specs.Entries.{entries}
use Rattle.emission.proofs.Texts.{newest_inside, newest_offered, newest_silent}
use Rattle.emission.proofs.instructions.emit.Goals as goal

pub offer_written-requires : goal.offer_written-requires
offer_written-requires g c =
    let m = g.K.Sink.state c.args.sink.now in
    newest_inside c.args.store.now g.K.Sink.sink m m c.emit_value.new.buffer (g.F.Formatter.formatted c.args.formatter.now) (entries c.args.values.now)
    c.in_ok-written.written c.requires.there c.in_ok-written.ensures.writes

pub returns-in_err-written-clause-emits : goal.returns-in_err-written-clause-emits
returns-in_err-written-clause-emits g c =
    let m = g.K.Sink.state c.args.sink.now in
    let p = err_from_is_err_and c.from_residual.result c.from_residual.ensures.1 in
    newest_silent c.args.store.now g.K.Sink.sink m m c.emit_value.new.buffer (g.F.Formatter.formatted c.args.formatter.now) (entries c.args.values.now)
    c.in_err-written.field-0.0 _ c.from_residual.result c.in_err-written.ensures.writes p.1 p.2

pub returns-clause-emits : goal.returns-clause-emits
returns-clause-emits g c =
    newest_offered c.args.store.now g.K.Sink.sink (g.K.Sink.state c.args.sink.now) (g.K.Sink.state c.offer_written.new.sink) c.emit_value.new.buffer
    (g.F.Formatter.formatted c.args.formatter.now) (entries c.args.values.now)
    c.in_ok-written.written c.offer_written.result c.in_ok-written.ensures.writes c.offer_written.ensures
