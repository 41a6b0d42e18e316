-- What the renderer stands at, as a state of the abstract machine.
use Rattle.std.specs.Prelude.{◌≡◌, ℕ, ◌<◌, ◌≤◌, Bool, true, false, cond, List, [], ◌∷◌, map as each, length, drop, Ok, Err, Result}
use Rattle.meaning.specs.Fault.{in_template}
use Rattle.meaning.specs.FaultRecords.{fault_of}
use Rattle.meaning.specs.Hosts.{Hosts, ValueSource, Taken, Sink}
use Rattle.meaning.specs.Reading.{Event, Templates}
use Rattle.meaning.specs.declared.fault.Fault as code
use Rattle.program.specs.Program.{Instr, JumpIfTrue, JumpIfFalse}
use Rattle.machine.specs.Machine as machine
use Rattle.machine.specs.Machine.{Frame, Entry, Held, Next, running, faulted, State, World, stuck, finished, enter, close, execute, freed, standing, most_values, most_scopes, most_open}
use Rattle.machine.specs.Promise.{compile_template, compile_templates, observing}
use Rattle.stack.specs.Entries.{entries, room, Kept}
use Rattle.meaning.specs.Charge.{Charge, free}
use Rattle.store.specs.Stores.{charged, supply, used, SameMemory}
use Rattle.scopes.specs.declared.state.LoopState.{LoopState}
use Rattle.scopes.specs.declared.state.Scope.{Scope}
use Rattle.scopes.specs.declared.state.State.TheVariants.{Var, Boundary}
use Rattle.scopes.specs.declared.state.State.TheVariants as states
use Rattle.meaning.specs.declared.tree.Span.{Span}
use Rattle.store.specs.declared.cell.Ref.{Ref}
use Rattle.store.specs.declared.memory.Tally.{Tally}
use Rattle.hosts.specs.Answers.{AllKnown, arguments_in}
use Rattle.hosts.specs.declared.answer.Argument.{Argument}
use Rattle.templates.specs.Held.{templates_of, template_at, name_at}
use Rattle.scopes.specs.Entries.{entries_in}
use Rattle.scopes.specs.Layers.{Layered}
use Rattle.render.specs.declared.state.Open.{Open}
use Rattle.render.specs.declared.state.RenderState.{RenderState}

-- what a rendering is given beside its templates: what the lowest scope asks, the other hosts, and how many templates may be open
pub record Given : Type 0 where
  pub from : ValueSource
  pub hosts : Hosts
  pub max_include_depth : ℕ

abbrev pub frame_in : Templates → Open → Frame
frame_in templates o =
    record { name = name_at templates o.template; compiled = compile_template (template_at templates o.template); scoped = o.scoped }

abbrev pub open_in : Templates → Open → machine.Open
open_in templates o = record { frame = frame_in templates o; pc = o.pc }

module _ {K : Type 0} (s : RenderState K) where
  abbrev pub held : Templates
  held = templates_of s.templates.now

  abbrev pub below_in : List machine.Open
  below_in = each (open_in held) (entries s.below)

  abbrev pub values_in : List Held
  values_in = arguments_in s.store (entries s.values)

  module _ (g : Given) where
    abbrev pub world_in : World
    world_in =
        record { supply = supply s.store; programs = compile_templates held; hosts = g.hosts; max_include_depth = g.max_include_depth }

    abbrev pub scopes_in : List Entry
    scopes_in = entries_in held s.store g.from (entries s.scopes)

    abbrev pub state_in : {M : Type 0} → M → State M
    state_in m =
        record { here = open_in held s.here; below = below_in; scopes = scopes_in; values = values_in; tally = used s.store; observed = m }

    -- an instruction, behind which the renderer stands already
    abbrev pub doing : {M : Type 0} → (M → Event → Taken M) → Instr → M → Next M
    doing observe i m = execute observe world_in (frame_in held s.here) s.here.pc below_in i scopes_in values_in (used s.store) m

-- the templates that are open are among those held
abbrev pub AllHeld : Templates → List Open → Type 0
AllHeld templates [] = Unit {0}
AllHeld templates (o ∷ os) = (o.template < length templates) × AllHeld templates os

-- what always holds of the renderer
pub record Sound {K : Type 0} (s : RenderState K) : Type 0 where
  pub here_held : s.here.template < length (held s)
  pub below_held : AllHeld (held s) (entries s.below)
  pub layered : Layered (held s) s.store (used s.store) (entries s.scopes)
  pub known : AllKnown s.store (entries s.values)
  pub values_room : most_values ≤ room s.values
  pub scopes_room : most_scopes ≤ room s.scopes
  pub open_room : most_open ≤ room s.below
  pub text_room : length s.buffer.now ≡ 4096

-- where there is no fault
abbrev pub SoundAfter : {K : Type 0} → Result (Unit {0}) code.Fault → RenderState K → Type 0
SoundAfter (Ok done) s = Sound s
SoundAfter (Err f) s = Unit {0}

-- in the same memory, over the same templates, with the same sink
pub record Same {K : Type 0} (before after : RenderState K) : Type 0 where
  pub templates : after.templates ≡ before.templates
  pub below : Kept before.below after.below
  pub scopes : Kept before.scopes after.scopes
  pub values : Kept before.values after.values
  pub memory : SameMemory before.store after.store
  pub buffer : after.buffer.ghost_name ≡ before.buffer.ghost_name
  pub sink : after.sink.ghost_name ≡ before.sink.ghost_name

-- the height of the tally at which the statements under the top scope begin
abbrev pub floor_of : List Scope → Charge
floor_of [] = free
floor_of (e ∷ es) = charged e.floor

-- a statement ends: nothing changes but the tally, which is put to the floor of the top scope
pub record Rests {K : Type 0} (before after : RenderState K) : Type 0 where
  pub here : after.here ≡ before.here
  pub below : after.below ≡ before.below
  pub scopes : after.scopes ≡ before.scopes
  pub values : after.values ≡ before.values
  pub buffer : after.buffer ≡ before.buffer
  pub sink : after.sink ≡ before.sink
  pub floor : used after.store ≡ floor_of (entries before.scopes)
  pub keeps : (g : Given) → scopes_in after g ≡ scopes_in before g

-- some value stands on the stack of values
pub record SomeValue {K : Type 0} (s : RenderState K) : Type 0 where
  pub value : Argument
  pub under : List Argument
  pub are : entries s.values ≡ value ∷ under

-- one value, and no other
pub record OneValue {K : Type 0} (s : RenderState K) : Type 0 where
  pub value : Argument
  pub are : entries s.values ≡ value ∷ []

-- a loop's entry is the top scope
pub record TopLoop {K : Type 0} (s : RenderState K) : Type 0 where
  pub loop : LoopState
  pub floor : Tally
  pub under : List Scope
  pub are : entries s.scopes ≡ record { state = states.Loop loop; floor = floor } ∷ under

-- a with's entry is the top scope, another stands under it, and no value is left
pub record EndsWith {K : Type 0} (s : RenderState K) : Type 0 where
  pub template : ℕ
  pub name : Span
  pub value : Ref
  pub floor : Tally
  pub under : List Scope
  pub are : entries s.scopes ≡ record { state = Var template name value; floor = floor } ∷ under
  pub outer : 0 < length under
  pub clear : entries s.values ≡ []

-- a template's own scope, if it has one, stands over a boundary
abbrev pub Owned : (scoped : Bool) → List Scope → Type 0
Owned false es = Unit {0}
Owned true es =
    (own boundary : Scope) × (under : List Scope) × (r : Ref)
    × (es ≡ own ∷ boundary ∷ under) × (own.state ≡ states.Scope r) × (boundary.state ≡ Boundary)

abbrev pub under_own : (scoped : Bool) → List Scope → List Scope
under_own false es = es
under_own true es = drop 2 es

-- what stands when the template here ends; where another goes on, a scope under its own, and no value
pub record EndsTemplate {K : Type 0} (s : RenderState K) : Type 0 where
  pub own : Owned s.here.scoped (entries s.scopes)
  pub rests : 0 < length (entries s.below) → (0 < length (under_own s.here.scoped (entries s.scopes))) × (entries s.values ≡ [])

-- the conditional jump that goes when the truth is that
abbrev pub jump_if : Bool → (target : ℕ) → Instr
jump_if when target = cond when (JumpIfTrue target) (JumpIfFalse target)

-- all but the scopes is as it was
pub record Beside {K : Type 0} (before after : RenderState K) : Type 0 where
  pub here : after.here ≡ before.here
  pub below : after.below ≡ before.below
  pub values : after.values ≡ before.values
  pub store : after.store ≡ before.store
  pub buffer : after.buffer ≡ before.buffer
  pub sink : after.sink ≡ before.sink

-- WHAT AN INSTRUCTION COMES TO

module _ {K : Type 0} (sink : Sink) (state : K → sink.State) where
  -- the machine at an instruction, behind which the renderer stands
  abbrev pub at_instr : Given → Instr → RenderState K → Next sink.State
  at_instr g i s = doing s g (observing sink.take) i (state s.sink.now)

  -- it goes on where the renderer stands, or faults; the fault gets its template here
  abbrev pub ComesAt : Given → Instr → (before after : RenderState K) → Result (Unit {0}) code.Fault → Type 0
  ComesAt g i before after (Ok done) = at_instr g i before ≡ running (state_in after g (state after.sink.now))
  ComesAt g i before after (Err f) =
      at_instr g i before
      ≡ faulted (in_template (name_at (held before) before.here.template) (fault_of f)) (scopes_in before g) (state after.sink.now)

  -- whatever the renderer is given
  abbrev pub Comes : Instr → (before after : RenderState K) → Result (Unit {0}) code.Fault → Type 0
  Comes i before after r = (g : Given) → ComesAt g i before after r

  abbrev pub Steps : Instr → (before after : RenderState K) → Type 0
  Steps i before after = Comes i before after (Ok tt)

  -- the machine is not stuck at the instruction
  abbrev pub Goes : Given → Instr → RenderState K → Type 0
  Goes g i s = ¬ (at_instr g i s ≡ stuck)

  -- nor, for some rendering
  abbrev pub GoesFor : Instr → RenderState K → Type 0
  GoesFor i s = (g : Given) × Goes g i s

  -- the end of a statement, with the sink left so
  abbrev pub ending : Given → RenderState K → sink.State → Next sink.State
  ending g s m =
      freed (scopes_in s g) (values_in s) (λ floor. standing (frame_in (held s) s.here) s.here.pc (below_in s) (scopes_in s g) (values_in s) floor m)

  -- with the instruction a statement ends
  abbrev pub Ends : Instr → (before after : RenderState K) → Type 0
  Ends i before after = (g : Given) → at_instr g i before ≡ ending g after (state after.sink.now)

  -- a template that is to be opened over the one here
  abbrev pub opening : Given → (template : ℕ) (scoped : Bool) → RenderState K → Next sink.State
  opening g template scoped s =
      enter (observing sink.take) (world_in s g) (frame_in (held s) (record { template = template; pc = 0; scoped = scoped }))
      (open_in (held s) s.here ∷ below_in s) (scopes_in s g) (values_in s) (used s.store) (state s.sink.now)

  -- it is open, or too many would be, whatever the template: then there is none in the fault
  abbrev pub Opens : (max_include_depth template : ℕ) (scoped : Bool) → (before after : RenderState K) → Result (Unit {0}) code.Fault → Type 0
  Opens max template scoped before after (Ok done) =
      (g : Given) → g.max_include_depth ≡ max → opening g template scoped before ≡ running (state_in after g (state after.sink.now))
  Opens max template scoped before after (Err f) =
      (g : Given) → g.max_include_depth ≡ max
      → opening g template scoped before ≡ faulted (fault_of f) (scopes_in before g) (state after.sink.now)

  -- a template that has ended: the one below it goes on, or nothing does
  abbrev pub closing : Given → RenderState K → Next sink.State
  closing g s =
      close (observing sink.take) (world_in s g) s.here.scoped (below_in s) (scopes_in s g) (values_in s) (used s.store) (state s.sink.now)

  abbrev pub Closes : (goes_on : Bool) → (before after : RenderState K) → Type 0
  Closes true before after = (g : Given) → closing g before ≡ running (state_in after g (state after.sink.now))
  Closes false before after =
      (g : Given) → closing g before ≡ finished (scopes_in after g) (values_in after) (used after.store) (state after.sink.now)

  -- the template of that name is to be opened; or there is none of it, which is a fault here
  abbrev pub Includes : Instr → (scoped : Bool) → (before after : RenderState K) → Result ℕ code.Fault → Type 0
  Includes i scoped before after (Ok template) =
      (template < length (held after)) × ((g : Given) → at_instr g i before ≡ opening g template scoped after)
  Includes i scoped before after (Err f) =
      (g : Given) → at_instr g i before
      ≡ faulted (in_template (name_at (held before) before.here.template) (fault_of f)) (scopes_in before g) (state after.sink.now)
