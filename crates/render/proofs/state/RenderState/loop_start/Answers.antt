use Rattle.std.proofs.Common.{List, refl, sym, subst, arith}
use Rattle.stack.specs.Entries.{entries, room}
use Rattle.store.specs.Stores.{used}
use Rattle.scopes.specs.Layers.{Layered}
use Rattle.scopes.specs.declared.state.Scope.{Scope}
use Rattle.scopes.specs.declared.state.State.TheVariants as states
use Rattle.scopes.proofs.Keeping.{push_layered}
use Rattle.hosts.specs.Answers.{AllKnown}
use Rattle.render.specs.States.{held}
use Rattle.render.proofs.Growing.{pushed_ok}
use Rattle.render.proofs.Loops.{start_fits, start_room, started}
use Rattle.render.proofs.state.RenderState.loop_start.Goals as goal

pub unwrap-requires : goal.unwrap-requires
unwrap-requires g c =
    let s = c.args.self.now in
    let few = start_room g.K.Sink.sink g.K.Sink.state c.requires.goes.0 s c.args.vars c.args.span c.in-Some.iterable (entries c.pop.new.self)
    c.in-Some.ensures.popped c.in_ok-started.started (c.in_ok-started.ensures (held s)) c.requires.goes.1 in
    pushed_ok (room s.scopes) _ c.push.result (entries s.scopes) (entries c.push.new.self) (omega (arith, few, c.requires.sound.scopes_room)) c.push.ensures.pushed

pub returns-clause-sound : goal.returns-clause-sound
returns-clause-sound g c =
    let s = c.args.self.now in
    let pushed = rw c.unwrap.ensures at c.push.ensures.pushed in
    record {
      here_held = c.requires.sound.here_held;
      below_held = c.requires.sound.below_held;
      layered = subst (λ (es : List Scope). Layered (held s) s.store (used s.store) es) (sym pushed.1)
          (push_layered (held s) s.store (states.Loop c.in_ok-started.started) c.mark.result (entries s.scopes) c.mark.ensures
          (start_fits g.K.Sink.sink g.K.Sink.state c.requires.goes.0 s c.args.vars c.args.span c.in-Some.iterable (entries c.pop.new.self)
          c.in-Some.ensures.popped c.in_ok-started.started (c.in_ok-started.ensures (held s)) c.requires.sound.here_held)
          c.requires.sound.layered);
      known = (subst (AllKnown s.store) c.in-Some.ensures.popped c.requires.sound.known).1;
      values_room = omega (arith, c.requires.sound.values_room, c.in-Some.ensures.kept.same_room);
      scopes_room = omega (arith, c.requires.sound.scopes_room, c.push.ensures.kept.same_room);
      open_room = c.requires.sound.open_room;
      text_room = c.requires.sound.text_room;
    }

pub returns-clause-came : goal.returns-clause-came
returns-clause-came g c = λ given.
    let s = c.args.self.now in
    let pushed = rw c.unwrap.ensures at c.push.ensures.pushed in
    let few = start_room g.K.Sink.sink g.K.Sink.state c.requires.goes.0 s c.args.vars c.args.span c.in-Some.iterable (entries c.pop.new.self)
    c.in-Some.ensures.popped c.in_ok-started.started (c.in_ok-started.ensures (held s)) c.requires.goes.1 in
    started g.K.Sink.sink g.K.Sink.state given s c.args.vars c.args.span c.in-Some.iterable (entries c.pop.new.self) c.in-Some.ensures.popped
    c.in_ok-started.started c.mark.result c.pop.new.self c.push.new.self (c.in_ok-started.ensures (held s)) few refl c.mark.ensures pushed.1
