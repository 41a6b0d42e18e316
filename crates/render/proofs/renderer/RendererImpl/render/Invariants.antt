use Rattle.render.specs.Renderers.{given_by}
use Rattle.render.proofs.Looping.{Onway, left}
use Rattle.render.proofs.renderer.RendererImpl.render.Given as goal

abbrev pub invariant-loop : goal.invariant-loop
invariant-loop g l = Onway g.K.Sink.sink g.K.Sink.state (given_by g.S.ValueSource.valued g.C.Callables.named g.F.Formatter.formatted l.self) l.fn.state l.state

abbrev pub decreases-loop : goal.decreases-loop
decreases-loop g l = left g.K.Sink.sink g.K.Sink.state (given_by g.S.ValueSource.valued g.C.Callables.named g.F.Formatter.formatted l.self) l.fn.state l.state
