use Rattle.std.proofs.Common.{rules, ◌≡◌, ◌∙◌, ap, List, ◌∷◌, subst, sym, arith}
use Rattle.stack.specs.Entries.{entries, room}
use Rattle.store.specs.Stores.{used}
use Rattle.scopes.specs.Layers.{Layered}
use Rattle.scopes.specs.declared.state.Scope.{Scope}
use Rattle.scopes.specs.declared.state.State.TheVariants as states
use Rattle.scopes.proofs.Keeping.{pop_layered, turn_layered}
use Rattle.expressions.proofs.Places.{popped_place}
use Rattle.render.specs.States.{held}
use Rattle.render.proofs.Growing.{pushed_ok}
use Rattle.render.proofs.state.RenderState.turn.Goals as goal

pub returns-in_default-iterate-clause-sound : goal.returns-in_default-iterate-clause-sound
returns-in_default-iterate-clause-sound g c =
    let s = c.args.self.now in
    let kept = c.in-Some-Loop.ensures.kept in
    record {
      here_held = c.requires.sound.here_held;
      below_held = c.requires.sound.below_held;
      layered = pop_layered (held s) s.store (used s.store) _ (entries c.pop.new.self)
          (subst (λ (es : List Scope). Layered (held s) s.store (used s.store) es) c.in-Some-Loop.ensures.popped c.requires.sound.layered);
      known = c.requires.sound.known;
      values_room = c.requires.sound.values_room;
      scopes_room = omega (arith, c.requires.sound.scopes_room, kept.same_room);
      open_room = c.requires.sound.open_room;
      text_room = c.requires.sound.text_room;
    }

pub unwrap-requires : goal.unwrap-requires
unwrap-requires g c =
    let s = c.args.self.now in
    pushed_ok (room c.pop.new.self) _ c.push.result (entries c.pop.new.self) (entries c.push.new.self)
    (popped_place s.scopes c.pop.new.self _ c.in-Some-Loop.ensures.popped c.in-Some-Loop.ensures.kept) c.push.ensures.pushed

pub returns-clause-sound : goal.returns-clause-sound
returns-clause-sound g c =
    let s = c.args.self.now in
    let pushed = rw c.unwrap.ensures at c.push.ensures.pushed in
    let same : c.in-Some-Loop.field-0 ≡ record { state = states.Loop c.in-Some-Loop.turn; floor = c.in-Some-Loop.field-0.floor } = search rules in
    record {
      here_held = c.requires.sound.here_held;
      below_held = c.requires.sound.below_held;
      layered = subst (λ (es : List Scope). Layered (held s) s.store (used s.store) es) (sym pushed.1)
          (turn_layered (held s) s.store (used s.store) c.in-Some-Loop.turn c.in-Some.next c.in-Some-Loop.field-0.floor (entries c.pop.new.self)
          (c.in-Some.ensures.fits (held s))
          (subst (λ (es : List Scope). Layered (held s) s.store (used s.store) es)
          (c.in-Some-Loop.ensures.popped ∙ ap (λ (e : Scope). e ∷ entries c.pop.new.self) same) c.requires.sound.layered));
      known = c.requires.sound.known;
      values_room = c.requires.sound.values_room;
      scopes_room = omega (arith, c.requires.sound.scopes_room, c.in-Some-Loop.ensures.kept.same_room, c.push.ensures.kept.same_room);
      open_room = c.requires.sound.open_room;
      text_room = c.requires.sound.text_room;
    }
