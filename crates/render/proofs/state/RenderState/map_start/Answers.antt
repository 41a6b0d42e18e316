use Rattle.std.proofs.Common.{refl}
use Rattle.meaning.specs.Charge.{charge, one_cell}
use Rattle.meaning.specs.Value.{map, no_entries}
use Rattle.program.specs.Program.{ExprStartMap}
use Rattle.stack.specs.Entries.{entries}
use Rattle.store.specs.Stores.{supply, used}
use Rattle.render.proofs.Growing.{comes_grown, keeps_grown, room_there, same_grown, sound_grown}
use Rattle.render.proofs.state.RenderState.map_start.Goals as goal

pub start_map-requires-clause-spare : goal.start_map-requires-clause-spare
start_map-requires-clause-spare g c =
    let s = c.args.self.now in
    record {
      few = room_there g.K.Sink.sink g.K.Sink.state c.requires.goes.0 (ExprStartMap c.args.span) s (entries s.values) c.args.span (charge (supply s.store) c.args.span one_cell (map no_entries) (used s.store)) refl c.requires.goes.1;
      roomy = c.requires.sound.values_room;
    }

pub returns-clause-sound : goal.returns-clause-sound
returns-clause-sound g c =
    let s = c.args.self.now in
    sound_grown s c.start_map.new.store c.start_map.new.values c.start_map.ensures.kept (entries s.values) c.args.span (charge (supply s.store) c.args.span one_cell (map no_entries) (used s.store)) c.start_map.result c.start_map.ensures.pushes c.requires.sound

pub returns-clause-same : goal.returns-clause-same
returns-clause-same g c =
    let s = c.args.self.now in
    same_grown s c.start_map.new.store c.start_map.new.values c.start_map.ensures.kept (entries s.values) c.args.span (charge (supply s.store) c.args.span one_cell (map no_entries) (used s.store)) c.start_map.result c.start_map.ensures.pushes

pub returns-clause-keeps : goal.returns-clause-keeps
returns-clause-keeps g c =
    let s = c.args.self.now in
    keeps_grown s c.start_map.new.store c.start_map.new.values c.start_map.ensures.kept (entries s.values) c.args.span (charge (supply s.store) c.args.span one_cell (map no_entries) (used s.store)) c.start_map.result c.start_map.ensures.pushes

pub returns-clause-came : goal.returns-clause-came
returns-clause-came g c = λ given.
    let s = c.args.self.now in
    comes_grown g.K.Sink.sink g.K.Sink.state given (ExprStartMap c.args.span) s (entries s.values) c.args.span (charge (supply s.store) c.args.span one_cell (map no_entries) (used s.store)) c.start_map.new.store c.start_map.new.values c.start_map.ensures.kept c.requires.sound
    (room_there g.K.Sink.sink g.K.Sink.state c.requires.goes.0 (ExprStartMap c.args.span) s (entries s.values) c.args.span (charge (supply s.store) c.args.span one_cell (map no_entries) (used s.store)) refl c.requires.goes.1) refl
    c.start_map.result c.start_map.ensures.pushes
