use Rattle.program.specs.Program.{LoopNext}
use Rattle.render.proofs.Emitting.{clear_at_end, rested}
use Rattle.render.proofs.Keeping.{keeps_trans}
use Rattle.render.proofs.state.RenderState.loop_next.Goals as goal

pub end_statement-requires-clause-scoped : goal.end_statement-requires-clause-scoped
end_statement-requires-clause-scoped g c =
    (clear_at_end g.K.Sink.sink g.K.Sink.state c.requires.goes.0 (LoopNext c.args.target) c.args.self.now c.turn.new.self c.requires.goes.1
    (c.turn.ensures.ends c.requires.goes.0)).0

pub end_statement-requires-clause-clear : goal.end_statement-requires-clause-clear
end_statement-requires-clause-clear g c =
    (clear_at_end g.K.Sink.sink g.K.Sink.state c.requires.goes.0 (LoopNext c.args.target) c.args.self.now c.turn.new.self c.requires.goes.1
    (c.turn.ensures.ends c.requires.goes.0)).1

pub returns-clause-keeps : goal.returns-clause-keeps
returns-clause-keeps g c = keeps_trans c.args.self.now c.turn.new.self c.end_statement.new.self c.turn.ensures.keeps c.end_statement.ensures.keeps

pub returns-clause-came : goal.returns-clause-came
returns-clause-came g c = λ given.
    rested g.K.Sink.sink g.K.Sink.state given (LoopNext c.args.target) c.args.self.now c.turn.new.self c.end_statement.new.self
    (clear_at_end g.K.Sink.sink g.K.Sink.state c.requires.goes.0 (LoopNext c.args.target) c.args.self.now c.turn.new.self c.requires.goes.1
    (c.turn.ensures.ends c.requires.goes.0))
    c.end_statement.ensures.same c.end_statement.ensures.rests (c.turn.ensures.ends given)
