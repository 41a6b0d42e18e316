-- The loop of a rendering: what holds at each turn, and what it comes to.
use Rattle.std.proofs.Common.{◌≡◌, ℕ, ◌<◌, min, true, false, List, [], ◌∷◌, Ok, Err, refl, sym, ap, subst, ◌∙◌}
use mathlib.Core.Option.{some}
use Rattle.meaning.specs.FaultRecords.{fault_of}
use Rattle.meaning.specs.Hosts.{Sink}
use Rattle.meaning.specs.Reading.{End, find, finished as at_end_of_reading, faulted as faulted_reading}
use Rattle.meaning.specs.declared.fault.Fault as code
use Rattle.machine.specs.Machine.{Entry, Next, World, faulted, finished, onward, run, running, step}
use Rattle.machine.specs.Promise.{CameTo, Rendering, Stacks, compile_templates, observing, read_out}
use Rattle.machine.specs.Steps.{Ended, steps_left}
use Rattle.machine.proofs.Bounds.{bound, enough}
use Rattle.machine.proofs.Counting.{comes_on, ended_unstuck, falls, stays_ended}
use Rattle.machine.proofs.Endings.{came_ended}
use Rattle.stack.specs.Entries.{Kept}
use Rattle.stack.specs.declared.Stack.{Stack}
use Rattle.store.specs.Stores.{SameMemory, used}
use Rattle.store.specs.declared.memory.Store.{Store}
use Rattle.templates.specs.Held.{name_at, template_at, templates_of}
use Rattle.render.specs.Keeping.{Keeps}
use Rattle.render.specs.Rendering.{Fresh, Rendered, rendering_at}
use Rattle.render.specs.States.{Given, Same, Sound, held, scopes_in, state_in, values_in, world_in}
use Rattle.render.specs.Stepping.{StepGoes, StepsTo, stepping}
use Rattle.render.specs.declared.state.RenderState.{RenderState}
use Rattle.render.proofs.Keeping.{keeps_same, keeps_trans}

kept_trans : {X : Type 0} (a b c : Stack X) → Kept a b → Kept b c → Kept a c
kept_trans a b c p q = record { same_room = q.same_room ∙ p.same_room; lender = q.lender ∙ p.lender }

memory_trans : (a b c : Store) → SameMemory a b → SameMemory b c → SameMemory a c
memory_trans a b c p q = record {
  cells = q.cells ∙ p.cells;
  text = q.text ∙ p.text;
  tally = q.tally ∙ p.tally;
  cells_long = q.cells_long ∙ p.cells_long;
  text_long = q.text_long ∙ p.text_long;
}

module _ {K : Type 0} where
  pub same_trans : (a b c : RenderState K) → Same a b → Same b c → Same a c
  same_trans a b c p q = record {
    templates = q.templates ∙ p.templates;
    below = kept_trans a.below b.below c.below p.below q.below;
    scopes = kept_trans a.scopes b.scopes c.scopes p.scopes q.scopes;
    values = kept_trans a.values b.values c.values p.values q.values;
    memory = memory_trans a.store b.store c.store p.memory q.memory;
    buffer = q.buffer ∙ p.buffer;
    sink = q.sink ∙ p.sink;
  }

  same_self : (s : RenderState K) → Same s s
  same_self s = record {
    templates = refl;
    below = record { same_room = refl; lender = refl };
    scopes = record { same_room = refl; lender = refl };
    values = record { same_room = refl; lender = refl };
    memory = record { cells = refl; text = refl; tally = refl; cells_long = refl; text_long = refl };
    buffer = refl;
    sink = refl;
  }

  same_world : (g : Given) (s t : RenderState K) → Same s t → world_in t g ≡ world_in s g
  same_world g s t same i = record {
    supply = record { cells = min 65535 (same.memory.cells_long i); bytes = min 65535 (same.memory.text_long i) };
    programs = compile_templates (templates_of (same.templates i).now);
    hosts = g.hosts;
    max_include_depth = g.max_include_depth;
  }

-- AN END

module _ {K : Type 0} (sink : Sink) (state : K → sink.State) (g : Given) (r : Rendering sink.State) (t : RenderState K) where
  finish_rendered : (o : End × sink.State) (x : Next sink.State) → CameTo r x o
      → x ≡ finished (scopes_in t g) (values_in t) (used t.store) (state t.sink.now) → Rendered sink state g r o t (Ok tt)
  finish_rendered (at_end_of_reading, n) x came is =
      let same : finished (scopes_in t g) (values_in t) (used t.store) (state t.sink.now) ≡ finished (r.bottom ∷ []) [] r.bottom.floor n = sym is ∙ came in
      (cc, cc, cc, cc)
  finish_rendered (faulted_reading why, n) x (left, came, based) is =
      let same : finished (scopes_in t g) (values_in t) (used t.store) (state t.sink.now) ≡ faulted why left n = sym is ∙ came in absurd cc

  fault_rendered : (f : code.Fault) (left : List Entry) (o : End × sink.State) (x : Next sink.State) → CameTo r x o
      → x ≡ faulted (fault_of f) left (state t.sink.now) → Rendered sink state g r o t (Err f)
  fault_rendered f left (at_end_of_reading, n) x came is =
      let same : faulted (fault_of f) left (state t.sink.now) ≡ finished (r.bottom ∷ []) [] r.bottom.floor n = sym is ∙ came in absurd cc
  fault_rendered f left (faulted_reading why, n) x (under, came, based) is =
      let same : faulted (fault_of f) left (state t.sink.now) ≡ faulted why under n = sym is ∙ came in (cc, cc)

-- THE LOOP

module _ {K : Type 0} (sink : Sink) (state : K → sink.State) (g : Given) (first : RenderState K) where
  abbrev r : Rendering sink.State
  r = rendering_at sink g first

  abbrev m : sink.State
  m = state first.sink.now

  -- the steps of the whole rendering
  abbrev all : ℕ
  all = bound r (name_at (held first) first.here.template) m

  abbrev comes_to : Next sink.State → Next sink.State
  comes_to x = run (observing sink.take) (world_in first g) all x

  -- what it comes to
  abbrev answer : Next sink.State
  answer = comes_to (running (state_in first g m))

  abbrev pub left : RenderState K → ℕ
  left s = steps_left (observing sink.take) (world_in first g) all (running (state_in s g (state s.sink.now)))

  pub record Onway (s : RenderState K) : Type 0 where
    pub sound : Sound s
    pub same : Same first s
    pub keeps : Keeps first s
    pub ended : Ended (run (observing sink.take) (world_in first g) (bound (rendering_at sink g first) (name_at (held first) first.here.template) (state first.sink.now)) (running (state_in first g (state first.sink.now))))
    pub comes :
        run (observing sink.take) (world_in first g) (bound (rendering_at sink g first) (name_at (held first) first.here.template) (state first.sink.now)) (running (state_in s g (state s.sink.now)))
        ≡ run (observing sink.take) (world_in first g) (bound (rendering_at sink g first) (name_at (held first) first.here.template) (state first.sink.now)) (running (state_in first g (state first.sink.now)))

  module _ (stacks : Stacks r) (found : find (held first) (name_at (held first) first.here.template) ≡ some (template_at (held first) first.here.template))
      (fresh : Fresh sink state g first) where
    pub came : CameTo r answer (read_out r (name_at (held first) first.here.template) (template_at (held first) first.here.template) m)
    came =
        subst (λ (x : Next sink.State). CameTo r (comes_to x) (read_out r (name_at (held first) first.here.template) (template_at (held first) first.here.template) m))
        (sym fresh) (enough r stacks (name_at (held first) first.here.template) (template_at (held first) first.here.template) found m)

    pub sets_out : Sound first → Onway first
    sets_out sound = record {
      sound = sound;
      same = same_self first;
      keeps = keeps_same first first refl refl;
      ended = came_ended r answer _ came;
      comes = refl;
    }

  module _ (s : RenderState K) (on : Onway s) where
    ends : Ended (comes_to (running (state_in s g (state s.sink.now))))
    ends = subst Ended (sym on.comes) on.ended

    stepped : onward (observing sink.take) (world_in first g) (running (state_in s g (state s.sink.now))) ≡ stepping sink state g s
    stepped = ap (λ (w : World). step (observing sink.take) w (state_in s g (state s.sink.now))) (sym (same_world g first s on.same))

    comes_still : comes_to (stepping sink state g s) ≡ answer
    comes_still =
        ap comes_to (sym stepped) ∙ comes_on (observing sink.take) (world_in first g) all (running (state_in s g (state s.sink.now))) ends ∙ on.comes

    pub step_goes : StepGoes sink state g s
    step_goes is_stuck =
        ended_unstuck (observing sink.take) (world_in first g) all 1 (running (state_in s g (state s.sink.now))) ends (stepped ∙ is_stuck)

    comes_there : (x : Next sink.State) → Ended x → stepping sink state g s ≡ x → answer ≡ x
    comes_there x end is = sym comes_still ∙ ap comes_to is ∙ stays_ended (observing sink.take) (world_in first g) all x end

    module _ (t : RenderState K) (same : Same s t) (keeps : Keeps s t) where
      pub again : Sound t → StepsTo sink state g s t (Ok true) → Onway t
      again sound steps = record {
        sound = sound;
        same = same_trans first s t on.same same;
        keeps = keeps_trans first s t on.keeps keeps;
        ended = on.ended;
        comes = ap comes_to (sym steps) ∙ comes_still;
      }

      pub less : StepsTo sink state g s t (Ok true) → left t < left s
      less steps =
          falls (observing sink.take) (world_in first g) all (state_in s g (state s.sink.now)) (state_in t g (state t.sink.now)) (stepped ∙ steps) ends

      module _ (o : End × sink.State) (came : CameTo r answer o) where
        pub finishes : StepsTo sink state g s t (Ok false) → Rendered sink state g r o t (Ok tt)
        finishes steps = finish_rendered sink state g r t o answer came (comes_there _ tt steps)

        pub faults : (f : code.Fault) → StepsTo sink state g s t (Err f) → Rendered sink state g r o t (Err f)
        faults f steps = fault_rendered sink state g r t f steps.0 o answer came (comes_there _ tt steps.1)
