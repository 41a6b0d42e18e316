-- What a whole rendering comes to.
use Rattle.std.specs.Prelude.{◌≡◌, List, [], ◌∷◌, Ok, Err, Result}
use Rattle.meaning.specs.Charge.{free}
use Rattle.meaning.specs.FaultRecords.{fault_of}
use Rattle.meaning.specs.Hosts.{Sink}
use Rattle.meaning.specs.Reading.{End, finished as at_end_of_reading, faulted as faulted_reading}
use Rattle.meaning.specs.declared.fault.Fault as code
use Rattle.machine.specs.Machine.{Entry, a_boundary, running}
use Rattle.machine.specs.Promise.{Rendering, observing, start}
use Rattle.store.specs.Stores.{supply, used}
use Rattle.templates.specs.Held.{name_at, template_at}
use Rattle.render.specs.States.{Given, held, scopes_in, state_in, values_in}
use Rattle.render.specs.declared.state.RenderState.{RenderState}

-- the top entry, which is the lowest where there is one
abbrev pub top_of : List Entry → Entry
top_of [] = record { kind = a_boundary; floor = free }
top_of (e ∷ es) = e

module _ {K : Type 0} (sink : Sink) where
  -- what stays the same throughout a rendering that starts there
  abbrev pub rendering_at : Given → RenderState K → Rendering sink.State
  rendering_at g s = record {
    observe = observing sink.take;
    setting = record { supply = supply s.store; templates = held s; hosts = g.hosts };
    max_include_depth = g.max_include_depth;
    bottom = top_of (scopes_in s g);
  }

  module _ (state : K → sink.State) (g : Given) where
    -- the template stands open at its beginning, over one scope, and nothing else stands there
    abbrev pub Fresh : RenderState K → Type 0
    Fresh s =
        running (state_in s g (state s.sink.now))
        ≡ start (rendering_at g s) (name_at (held s) s.here.template) (template_at (held s) s.here.template) (state s.sink.now)

    -- the sink is left so; at a good end the stacks and the tally are as they were at the start
    abbrev pub Rendered : Rendering sink.State → End × sink.State → (after : RenderState K) → Result (Unit {0}) code.Fault → Type 0
    Rendered r (at_end_of_reading, n) t (Ok done) =
        (state t.sink.now ≡ n) × (scopes_in t g ≡ r.bottom ∷ []) × (values_in t ≡ []) × (used t.store ≡ r.bottom.floor)
    Rendered r (at_end_of_reading, n) t (Err f) = ⊥
    Rendered r (faulted_reading why, n) t (Ok done) = ⊥
    Rendered r (faulted_reading why, n) t (Err f) = (fault_of f ≡ why) × (state t.sink.now ≡ n)
