use Rattle.std.proofs.Common.{rules}
use Rattle.reader.specs.Fields.{text_of}
use Rattle.render.proofs.Including.{includes_with}
use Rattle.render.proofs.state.RenderState.include_with.Goals as goal

pub returns-clause-includes : goal.returns-clause-includes
returns-clause-includes g c =
    includes_with g.K.Sink.sink g.K.Sink.state c.args.self.now (text_of c.args.name) c.in_ok-template.template c.in-Some.value c.mark-floor.result
    c.pop.new.self c.push-2.new.self c.in_ok-template.ensures c.in-Some.ensures.popped (search rules) (search rules) (c.requires.room _ c.in_ok-template.ensures.2)
