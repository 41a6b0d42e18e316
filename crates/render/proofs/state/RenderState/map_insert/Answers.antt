use Rattle.meaning.specs.Charge.{cell_and_text, charge}
use Rattle.program.specs.Program.{ExprMapInsert}
use Rattle.reader.specs.Fields.{text_of}
use Rattle.store.specs.Stores.{supply, used, value}
use Rattle.store.specs.Values.{inserted}
use Rattle.render.proofs.Growing.{comes_grown, keeps_grown, map_joins, room_there, same_grown, sound_grown}
use Rattle.render.proofs.Needs.{map_insert_needs}
use Rattle.render.proofs.state.RenderState.map_insert.Goals as goal

pub map_insert-requires-clause-two : goal.map_insert-requires-clause-two
map_insert-requires-clause-two g c = map_insert_needs g.K.Sink.sink g.K.Sink.state c.requires.goes.0 c.args.self.now (text_of c.args.key) c.requires.goes.1

pub returns-clause-sound : goal.returns-clause-sound
returns-clause-sound g c =
    let s = c.args.self.now in
    let two = map_insert_needs g.K.Sink.sink g.K.Sink.state c.requires.goes.0 s (text_of c.args.key) c.requires.goes.1 in
    sound_grown s c.map_insert.new.store c.map_insert.new.values c.map_insert.ensures.kept two.under two.second.span (charge (supply s.store) two.second.span (cell_and_text c.args.key.text.now) (inserted (value s.store two.second.value) c.args.key.text.now (value s.store two.newest.value)) (used s.store))
    c.map_insert.result (c.map_insert.ensures.joins two.newest two.second two.under two.are) c.requires.sound

pub returns-clause-same : goal.returns-clause-same
returns-clause-same g c =
    let s = c.args.self.now in
    let two = map_insert_needs g.K.Sink.sink g.K.Sink.state c.requires.goes.0 s (text_of c.args.key) c.requires.goes.1 in
    same_grown s c.map_insert.new.store c.map_insert.new.values c.map_insert.ensures.kept two.under two.second.span (charge (supply s.store) two.second.span (cell_and_text c.args.key.text.now) (inserted (value s.store two.second.value) c.args.key.text.now (value s.store two.newest.value)) (used s.store))
    c.map_insert.result (c.map_insert.ensures.joins two.newest two.second two.under two.are)

pub returns-clause-keeps : goal.returns-clause-keeps
returns-clause-keeps g c =
    let s = c.args.self.now in
    let two = map_insert_needs g.K.Sink.sink g.K.Sink.state c.requires.goes.0 s (text_of c.args.key) c.requires.goes.1 in
    keeps_grown s c.map_insert.new.store c.map_insert.new.values c.map_insert.ensures.kept two.under two.second.span (charge (supply s.store) two.second.span (cell_and_text c.args.key.text.now) (inserted (value s.store two.second.value) c.args.key.text.now (value s.store two.newest.value)) (used s.store))
    c.map_insert.result (c.map_insert.ensures.joins two.newest two.second two.under two.are)

pub returns-clause-came : goal.returns-clause-came
returns-clause-came g c = λ given.
    let s = c.args.self.now in
    let two = map_insert_needs g.K.Sink.sink g.K.Sink.state c.requires.goes.0 s (text_of c.args.key) c.requires.goes.1 in
    comes_grown g.K.Sink.sink g.K.Sink.state given (ExprMapInsert (text_of c.args.key)) s two.under two.second.span (charge (supply s.store) two.second.span (cell_and_text c.args.key.text.now) (inserted (value s.store two.second.value) c.args.key.text.now (value s.store two.newest.value)) (used s.store)) c.map_insert.new.store c.map_insert.new.values c.map_insert.ensures.kept c.requires.sound
    (room_there g.K.Sink.sink g.K.Sink.state c.requires.goes.0 (ExprMapInsert (text_of c.args.key)) s two.under two.second.span (charge (supply s.store) two.second.span (cell_and_text c.args.key.text.now) (inserted (value s.store two.second.value) c.args.key.text.now (value s.store two.newest.value)) (used s.store))
    (map_joins g.K.Sink.sink g.K.Sink.state c.requires.goes.0 s (text_of c.args.key) two) c.requires.goes.1)
    (map_joins g.K.Sink.sink g.K.Sink.state given s (text_of c.args.key) two)
    c.map_insert.result (c.map_insert.ensures.joins two.newest two.second two.under two.are)
