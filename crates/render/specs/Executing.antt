-- What an instruction comes to, whichever it is.
use Rattle.std.specs.Prelude.{◌≡◌, ◌<◌, length, Ok, Err, Result}
use Rattle.std.proofs.Math.Option.{Option, none, some}
use Rattle.meaning.specs.Fault.{in_template}
use Rattle.meaning.specs.FaultRecords.{fault_of}
use Rattle.meaning.specs.Hosts.{Sink}
use Rattle.meaning.specs.declared.fault.Fault as code
use Rattle.program.specs.Program.{Instr}
use Rattle.machine.specs.Machine.{faulted, running}
use Rattle.templates.specs.Held.{name_at}
use Rattle.render.specs.States.{Given, Sound, at_instr, held, opening, scopes_in, state_in}
use Rattle.render.specs.declared.renderer.executing.Turn.{Turn}
use Rattle.render.specs.declared.renderer.executing.Turn.TheVariants.{GoesOn, Opens}
use Rattle.render.specs.declared.state.RenderState.{RenderState}

-- it holds of what is there, if something is
abbrev pub IfAny : {A : Type 0} → Option A → (A → Type 0) → Type 0
IfAny none holds = Unit {0}
IfAny (some a) holds = holds a

-- where there is no fault
abbrev pub SoundTurn : {K : Type 0} → Result Turn code.Fault → RenderState K → Type 0
SoundTurn (Ok turn) s = Sound s
SoundTurn (Err f) s = Unit {0}

-- the machine goes on where the renderer stands; or opens a template over it; or faults, and the fault gets its template here
abbrev pub Executes : {K : Type 0} (sink : Sink) (state : K → sink.State) → Given → Instr → (before after : RenderState K) → Result Turn code.Fault → Type 0
Executes sink state g i before after (Ok GoesOn) = at_instr sink state g i before ≡ running (state_in after g (state after.sink.now))
Executes sink state g i before after (Ok (Opens template scoped)) =
    (template < length (held after)) × (at_instr sink state g i before ≡ opening sink state g template scoped after)
Executes sink state g i before after (Err f) =
    at_instr sink state g i before
    ≡ faulted (in_template (name_at (held before) before.here.template) (fault_of f)) (scopes_in before g) (state after.sink.now)
