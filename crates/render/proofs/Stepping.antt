-- A step is an instruction or the end of a template.
use Rattle.std.proofs.Common.{◌≡◌, ℕ, ◌+◌, ◌<◌, Bool, true, false, length, Some, None, Ok, Err, Result, refl, sym, ap, ◌∙◌, subst, add-one}
use mathlib.Core.Option.{some}
use Rattle.meaning.specs.Fault.{Fault, in_template}
use Rattle.meaning.specs.FaultRecords.{fault_of}
use Rattle.meaning.specs.Hosts.{Sink}
use Rattle.meaning.specs.declared.fault.Fault as code
use Rattle.program.specs.Program.{Instr, compile}
use Rattle.machine.specs.Machine.{Fetched, Next, at_end, execute, faulted, fetch, instr, outside, proceed, stuck}
use Rattle.machine.specs.Promise.{observing}
use Rattle.store.specs.Stores.{used}
use Rattle.decoder.specs.Decoding.{IsSound, decoded_instr}
use Rattle.decoder.specs.declared.decoded.Decoded.{Decoded}
use Rattle.templates.specs.Held.{name_at, template_at}
use Rattle.render.specs.Executing.{Executes, IfAny}
use Rattle.render.specs.declared.renderer.executing.Turn.{Turn}
use Rattle.render.specs.declared.renderer.executing.Turn.TheVariants.{GoesOn, Opens}
use Rattle.render.specs.Fetching.{Reads}
use Rattle.render.specs.States.{Given, Goes, Closes, at_instr, below_in, closing, frame_in, held, opening, scopes_in, values_in, world_in}
use Rattle.render.specs.Stepping.{StepGoes, StepsTo, stepping}
use Rattle.render.specs.declared.state.RenderState.{RenderState}

module _ {K : Type 0} (sink : Sink) (state : K → sink.State) (g : Given) (s : RenderState K) where
  abbrev fetched : Fetched
  fetched = fetch (compile (template_at (held s) s.here.template).tree) s.here.pc

  abbrev proceeds : Fetched → Next sink.State
  proceeds f =
      proceed (observing sink.take) (world_in s g) f (frame_in (held s) s.here) s.here.pc (below_in s) (scopes_in s g) (values_in s) (used s.store) (state s.sink.now)

  -- the end of the template here
  pub steps_out : Reads fetched None → StepGoes sink state g s → stepping sink state g s ≡ closing sink state g s
  steps_out reads goes = by fetched reads goes
    where
      by : (f : Fetched) → Reads f None → ¬ (proceeds f ≡ stuck) → proceeds f ≡ closing sink state g s
      by (instr i) reads goes = absurd reads
      by at_end reads goes = refl
      by outside reads goes = absurd (goes refl)

  -- behind the instruction that comes next
  abbrev pub advanced : RenderState K
  advanced = record {
    templates = s.templates;
    here = record { template = s.here.template; pc = s.here.pc + 1; scoped = s.here.scoped };
    below = s.below;
    scopes = s.scopes;
    values = s.values;
    store = s.store;
    buffer = s.buffer;
    sink = s.sink;
  }

  pub record Read (d : Decoded) : Type 0 where
    pub i : Instr
    pub is : decoded_instr d ≡ some i
    pub sound : IsSound d
    pub steps : stepping sink state g s ≡ at_instr sink state g i advanced

  pub steps_on : (d : Decoded) → Reads fetched (Some d) → Read d
  steps_on d reads = by fetched refl reads
    where
      by : (f : Fetched) → fetched ≡ f → Reads f (Some d) → Read d
      by (instr i) e reads = record {
        i = i;
        is = reads.0;
        sound = reads.1;
        steps =
            ap proceeds e
            ∙ (λ j. execute (observing sink.take) (world_in s g) (frame_in (held s) s.here) (sym (add-one s.here.pc) j) (below_in s) i (scopes_in s g) (values_in s)
            (used s.store) (state s.sink.now));
      }
      by at_end e reads = absurd reads
      by outside e reads = absurd reads

  -- what it needs
  pub goes_there : (d : Decoded) → Reads fetched (Some d) → StepGoes sink state g s → IfAny (decoded_instr d) (λ (i : Instr). Goes sink state g i advanced)
  goes_there d reads goes =
      let read = steps_on d reads in rw read.is (λ x. goes (read.steps ∙ x))

  -- what it comes to
  pub came_there : (d : Decoded) → Reads fetched (Some d) → (P : Instr → Type 0) → IfAny (decoded_instr d) P
      → (i : Instr) × (stepping sink state g s ≡ at_instr sink state g i advanced) × P i
  came_there d reads P came = let read = steps_on d reads in (read.i, read.steps, rw read.is at came)

  pub closes_so : (goes_on : Bool) (t : RenderState K) → stepping sink state g s ≡ closing sink state g s → Closes sink state goes_on s t → StepsTo sink state g s t (Ok goes_on)
  closes_so true t e closes = e ∙ closes g
  closes_so false t e closes = e ∙ closes g

  module _ (d : Decoded) (reads : Reads fetched (Some d)) (t : RenderState K) where
    abbrev CameTo : Result Turn code.Fault → Type 0
    CameTo r = IfAny (decoded_instr d) (λ (i : Instr). Executes sink state g i advanced t r)

    pub went_on : (r : Result Turn code.Fault) → r ≡ Ok GoesOn → CameTo r → StepsTo sink state g s t (Ok true)
    went_on r is came =
        let h = came_there d reads (λ (i : Instr). Executes sink state g i advanced t (Ok GoesOn)) (subst CameTo is came) in h.1 ∙ h.2

    pub to_open : (r : Result Turn code.Fault) (template : ℕ) (scoped : Bool) → r ≡ Ok (Opens template scoped) → CameTo r
        → (template < length (held t)) × (stepping sink state g s ≡ opening sink state g template scoped t)
    to_open r template scoped is came =
        let h = came_there d reads (λ (i : Instr). Executes sink state g i advanced t (Ok (Opens template scoped))) (subst CameTo is came) in
        (h.2.0, h.1 ∙ h.2.1)

    -- the fault gets the name of the template here
    pub named_fault : (f g' : code.Fault) → fault_of g' ≡ in_template (name_at (held s) s.here.template) (fault_of f) → CameTo (Err f)
        → StepsTo sink state g s t (Err g')
    named_fault f g' named came =
        let h = came_there d reads (λ (i : Instr). Executes sink state g i advanced t (Err f)) came in
        (scopes_in s g, h.1 ∙ h.2 ∙ ap (λ (why : Fault). faulted why (scopes_in s g) (state t.sink.now)) (sym named))
