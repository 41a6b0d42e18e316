-- What a step of a rendering comes to.
use Rattle.std.specs.Prelude.{◌≡◌, Bool, true, false, List, Ok, Err, Result}
use Rattle.meaning.specs.FaultRecords.{fault_of}
use Rattle.meaning.specs.Hosts.{Sink}
use Rattle.meaning.specs.declared.fault.Fault as code
use Rattle.machine.specs.Machine.{Entry, Next, faulted, finished, running, step, stuck}
use Rattle.machine.specs.Promise.{observing}
use Rattle.store.specs.Stores.{used}
use Rattle.render.specs.States.{Given, Sound, scopes_in, state_in, values_in, world_in}
use Rattle.render.specs.declared.state.RenderState.{RenderState}

-- where there is no fault
abbrev pub SoundStep : {K : Type 0} → Result Bool code.Fault → RenderState K → Type 0
SoundStep (Ok goes_on) s = Sound s
SoundStep (Err f) s = Unit {0}

module _ {K : Type 0} (sink : Sink) (state : K → sink.State) (g : Given) where
  -- the machine a step further
  abbrev pub stepping : RenderState K → Next sink.State
  stepping s = step (observing sink.take) (world_in s g) (state_in s g (state s.sink.now))

  abbrev pub StepGoes : RenderState K → Type 0
  StepGoes s = ¬ (stepping s ≡ stuck)

  -- it goes on where the renderer stands, or has ended there, or faults
  abbrev pub StepsTo : (before after : RenderState K) → Result Bool code.Fault → Type 0
  StepsTo before after (Ok true) = stepping before ≡ running (state_in after g (state after.sink.now))
  StepsTo before after (Ok false) = stepping before ≡ finished (scopes_in after g) (values_in after) (used after.store) (state after.sink.now)
  StepsTo before after (Err f) = (left : List Entry) × (stepping before ≡ faulted (fault_of f) left (state after.sink.now))
