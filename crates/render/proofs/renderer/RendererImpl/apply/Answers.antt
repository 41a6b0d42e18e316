use Rattle.std.proofs.Common.{[], drop}
use Rattle.meaning.specs.Expressions as meant
use Rattle.program.specs.Program.{Apply}
use Rattle.stack.specs.Entries.{entries}
use Rattle.store.specs.Stores.{supply, used}
use Rattle.expressions.specs.Calling.{arguments, calling}
use Rattle.render.specs.Renderers.{given_by}
use Rattle.render.proofs.Growing.{call_pushes, comes_grown, keeps_grown, room_there, same_grown, sound_grown}
use Rattle.render.proofs.Needs.{apply_needs}
use Rattle.render.proofs.renderer.RendererImpl.apply.Goals as goal

pub apply-requires-clause-enough : goal.apply-requires-clause-enough
apply-requires-clause-enough g c =
    let given = given_by g.S.ValueSource.valued g.C.Callables.named g.F.Formatter.formatted c.args.self.now in
    apply_needs g.K.Sink.sink g.K.Sink.state given c.args.state.now c.args.call.name c.args.call.whole c.args.call.arity c.requires.sound c.requires.goes

pub apply-requires-clause-few : goal.apply-requires-clause-few
apply-requires-clause-few g c =
    let given = given_by g.S.ValueSource.valued g.C.Callables.named g.F.Formatter.formatted c.args.self.now in
    let s = c.args.state.now in
    let call = c.args.call in
    let answer = meant.apply (calling (supply s.store) given.hosts.callables) c.source-source.result.now [] call.name call.whole (arguments s.store call.arity (entries s.values)) (used s.store) in
    let there = (apply_needs g.K.Sink.sink g.K.Sink.state given s call.name call.whole call.arity c.requires.sound c.requires.goes).there in
    room_there g.K.Sink.sink g.K.Sink.state given (Apply call.name call.arity call.whole) s (drop call.arity (entries s.values)) call.whole answer
    (call_pushes g.K.Sink.sink g.K.Sink.state given s c.source-source.result.now c.source-source.ensures call there) c.requires.goes

pub returns-clause-sound : goal.returns-clause-sound
returns-clause-sound g c =
    let s = c.args.state.now in
    sound_grown s c.apply.new.store c.apply.new.values c.apply.ensures.kept _ c.args.call.whole _ c.apply.result c.apply.ensures.pushes c.requires.sound

pub returns-clause-same : goal.returns-clause-same
returns-clause-same g c =
    let s = c.args.state.now in
    same_grown s c.apply.new.store c.apply.new.values c.apply.ensures.kept _ c.args.call.whole _ c.apply.result c.apply.ensures.pushes

pub returns-clause-keeps : goal.returns-clause-keeps
returns-clause-keeps g c =
    let s = c.args.state.now in
    keeps_grown s c.apply.new.store c.apply.new.values c.apply.ensures.kept _ c.args.call.whole _ c.apply.result c.apply.ensures.pushes

pub returns-clause-came : goal.returns-clause-came
returns-clause-came g c =
    let given = given_by g.S.ValueSource.valued g.C.Callables.named g.F.Formatter.formatted c.args.self.now in
    let s = c.args.state.now in
    let call = c.args.call in
    let answer = meant.apply (calling (supply s.store) given.hosts.callables) c.source-source.result.now [] call.name call.whole (arguments s.store call.arity (entries s.values)) (used s.store) in
    let there = (apply_needs g.K.Sink.sink g.K.Sink.state given s call.name call.whole call.arity c.requires.sound c.requires.goes).there in
    let is = call_pushes g.K.Sink.sink g.K.Sink.state given s c.source-source.result.now c.source-source.ensures call there in
    comes_grown g.K.Sink.sink g.K.Sink.state given (Apply call.name call.arity call.whole) s (drop call.arity (entries s.values)) call.whole answer
    c.apply.new.store c.apply.new.values c.apply.ensures.kept c.requires.sound
    (room_there g.K.Sink.sink g.K.Sink.state given (Apply call.name call.arity call.whole) s (drop call.arity (entries s.values)) call.whole answer is c.requires.goes)
    is c.apply.result c.apply.ensures.pushes
