use Rattle.meaning.specs.Charge.{charge, one_cell}
use Rattle.program.specs.Program.{ExprListPush}
use Rattle.store.specs.Stores.{supply, used, value}
use Rattle.store.specs.Values.{pushed}
use Rattle.render.proofs.Growing.{comes_grown, keeps_grown, list_joins, room_there, same_grown, sound_grown}
use Rattle.render.proofs.Needs.{list_push_needs}
use Rattle.render.proofs.state.RenderState.list_push.Goals as goal

pub list_push-requires-clause-two : goal.list_push-requires-clause-two
list_push-requires-clause-two g c = list_push_needs g.K.Sink.sink g.K.Sink.state c.requires.goes.0 c.args.self.now c.requires.goes.1

pub returns-clause-sound : goal.returns-clause-sound
returns-clause-sound g c =
    let s = c.args.self.now in
    let two = list_push_needs g.K.Sink.sink g.K.Sink.state c.requires.goes.0 s c.requires.goes.1 in
    sound_grown s c.list_push.new.store c.list_push.new.values c.list_push.ensures.kept two.under two.second.span (charge (supply s.store) two.second.span one_cell (pushed (value s.store two.second.value) (value s.store two.newest.value)) (used s.store))
    c.list_push.result (c.list_push.ensures.joins two.newest two.second two.under two.are) c.requires.sound

pub returns-clause-same : goal.returns-clause-same
returns-clause-same g c =
    let s = c.args.self.now in
    let two = list_push_needs g.K.Sink.sink g.K.Sink.state c.requires.goes.0 s c.requires.goes.1 in
    same_grown s c.list_push.new.store c.list_push.new.values c.list_push.ensures.kept two.under two.second.span (charge (supply s.store) two.second.span one_cell (pushed (value s.store two.second.value) (value s.store two.newest.value)) (used s.store))
    c.list_push.result (c.list_push.ensures.joins two.newest two.second two.under two.are)

pub returns-clause-keeps : goal.returns-clause-keeps
returns-clause-keeps g c =
    let s = c.args.self.now in
    let two = list_push_needs g.K.Sink.sink g.K.Sink.state c.requires.goes.0 s c.requires.goes.1 in
    keeps_grown s c.list_push.new.store c.list_push.new.values c.list_push.ensures.kept two.under two.second.span (charge (supply s.store) two.second.span one_cell (pushed (value s.store two.second.value) (value s.store two.newest.value)) (used s.store))
    c.list_push.result (c.list_push.ensures.joins two.newest two.second two.under two.are)

pub returns-clause-came : goal.returns-clause-came
returns-clause-came g c = λ given.
    let s = c.args.self.now in
    let two = list_push_needs g.K.Sink.sink g.K.Sink.state c.requires.goes.0 s c.requires.goes.1 in
    comes_grown g.K.Sink.sink g.K.Sink.state given (ExprListPush) s two.under two.second.span (charge (supply s.store) two.second.span one_cell (pushed (value s.store two.second.value) (value s.store two.newest.value)) (used s.store)) c.list_push.new.store c.list_push.new.values c.list_push.ensures.kept c.requires.sound
    (room_there g.K.Sink.sink g.K.Sink.state c.requires.goes.0 (ExprListPush) s two.under two.second.span (charge (supply s.store) two.second.span one_cell (pushed (value s.store two.second.value) (value s.store two.newest.value)) (used s.store))
    (list_joins g.K.Sink.sink g.K.Sink.state c.requires.goes.0 s two) c.requires.goes.1)
    (list_joins g.K.Sink.sink g.K.Sink.state given s two)
    c.list_push.result (c.list_push.ensures.joins two.newest two.second two.under two.are)
