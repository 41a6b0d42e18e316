-- Loops in code are the machine's.
use Rattle.std.proofs.Common.{◌≡◌, ℕ, ◌<◌, List, [], ◌∷◌, length, Ok, refl, sym, ap, ◌∙◌, arith, lt-ltb, ltb-true}
use mathlib.Core.Option.{none}
use Rattle.std.proofs.lemmas.List.{length-map}
use Rattle.meaning.specs.Fault.{Fault}
use Rattle.meaning.specs.Hosts.{Sink}
use Rattle.meaning.specs.Or.{Or, fails, gives}
use Rattle.meaning.specs.Scopes.{Turn}
use Rattle.meaning.specs.Statements.{turns}
use Rattle.meaning.specs.declared.tree.Span.{Span}
use Rattle.decoder.specs.Decoding.{loop_vars_of}
use Rattle.decoder.specs.declared.decoded.LoopVars.{LoopVars}
use Rattle.program.specs.Program.{LoopNext, LoopStart}
use Rattle.machine.specs.Machine.{Next, a_loop, had, most_scopes, push, running, standing, stuck}
use Rattle.hosts.specs.Answers.{arguments_in}
use Rattle.hosts.specs.declared.answer.Argument.{Argument}
use Rattle.stack.specs.Entries.{entries}
use Rattle.stack.specs.declared.Stack.{Stack}
use Rattle.store.specs.Stores.{charged, used, value}
use Rattle.store.specs.declared.memory.Tally.{Tally}
use Rattle.scopes.specs.Entries.{entries_in, entry_in, source_at}
use Rattle.scopes.specs.Iterating.{Starts}
use Rattle.scopes.specs.Layers.{LoopFits}
use Rattle.scopes.specs.declared.state.LoopState.{LoopState}
use Rattle.scopes.specs.declared.state.Scope.{Scope}
use Rattle.scopes.specs.declared.state.State.{State}
use Rattle.scopes.specs.declared.state.State.TheVariants as states
use Rattle.render.specs.States.{Given, Goes, SomeValue, TopLoop, at_instr, below_in, frame_in, held, scopes_in, state_in}
use Rattle.render.specs.declared.state.RenderState.{RenderState}
use Rattle.render.proofs.Needs.{the_way, with_these}

module _ {K : Type 0} (sink : Sink) (state : K → sink.State) (g : Given) (s : RenderState K) where
  -- STARTING

  module _ (vars : LoopVars) (span : Span) where
    pub loop_start_needs : Goes sink state g (LoopStart (loop_vars_of vars) span) s → SomeValue s
    loop_start_needs goes = by (entries s.values) refl goes
      where
        by : (vs : List Argument) → entries s.values ≡ vs → ¬ (with_these sink state g s (LoopStart (loop_vars_of vars) span) vs (entries s.scopes) ≡ stuck) → SomeValue s
        by [] e goes = absurd (goes refl)
        by (v ∷ vs) e goes = record { value = v; under = vs; are = e }

    module _ (v : Argument) (under : List Argument) (are : entries s.values ≡ v ∷ under) where
      abbrev all_turns : Or Fault (List Turn)
      all_turns = turns (source_at (held s) s.here.template) (loop_vars_of vars) (value s.store v.value) span

      abbrev looped : List Turn → Next sink.State
      looped all =
          push most_scopes (record { kind = a_loop none all; floor = used s.store }) (scopes_in s g)
          (λ more. standing (frame_in (held s) s.here) s.here.pc (below_in s) more (arguments_in s.store under) (used s.store) (state s.sink.now))

      abbrev begins : Or Fault (List Turn) → Next sink.State
      begins found = had (frame_in (held s) s.here).name (scopes_in s g) (state s.sink.now) found looped

      is_begun : at_instr sink state g (LoopStart (loop_vars_of vars) span) s ≡ begins all_turns
      is_begun = rw are refl

      pub start_room : (l : LoopState) → Starts (held s) s.store s.here.template all_turns (Ok l) → Goes sink state g (LoopStart (loop_vars_of vars) span) s
          → length (entries s.scopes) < most_scopes
      start_room l starts goes = by all_turns starts (λ x. goes (is_begun ∙ x))
        where
          by : (found : Or Fault (List Turn)) → Starts (held s) s.store s.here.template found (Ok l) → ¬ (begins found ≡ stuck) → length (entries s.scopes) < most_scopes
          by (gives all) starts goes =
              let l : length (scopes_in s g) < most_scopes = ltb-true _ _ (the_way _ _ goes) in
              omega (arith, l, length-map (entries s.scopes) (entry_in (held s) s.store g.from))
          by (fails f) starts goes = absurd starts

      pub start_fits : (l : LoopState) → Starts (held s) s.store s.here.template all_turns (Ok l) → s.here.template < length (held s)
          → LoopFits (held s) s.store (used s.store) l
      start_fits l starts here = by all_turns starts
        where
          by : (found : Or Fault (List Turn)) → Starts (held s) s.store s.here.template found (Ok l) → LoopFits (held s) s.store (used s.store) l
          by (gives all) starts = starts.fits here
          by (fails f) starts = absurd starts

      pub started : (l : LoopState) (floor : Tally) (values : Stack Argument) (scopes : Stack Scope)
          → Starts (held s) s.store s.here.template all_turns (Ok l) → length (entries s.scopes) < most_scopes → under ≡ entries values
          → floor ≡ s.store.tally.now → entries scopes ≡ record { state = states.Loop l; floor = floor } ∷ entries s.scopes
          → at_instr sink state g (LoopStart (loop_vars_of vars) span) s
          ≡ running (state_in (record {
            templates = s.templates;
            here = s.here;
            below = s.below;
            scopes = scopes;
            values = values;
            store = s.store;
            buffer = s.buffer;
            sink = s.sink;
          }) g (state s.sink.now))
      started l floor values scopes starts few left at pushed = is_begun ∙ by all_turns starts
        where
          by : (found : Or Fault (List Turn)) → Starts (held s) s.store s.here.template found (Ok l)
              → begins found
              ≡ standing (frame_in (held s) s.here) s.here.pc (below_in s) (entries_in (held s) s.store g.from (entries scopes)) (arguments_in s.store (entries values))
              (used s.store) (state s.sink.now)
          by (gives all) starts =
              let room = lt-ltb (length (scopes_in s g)) most_scopes (omega (arith, few, length-map (entries s.scopes) (entry_in (held s) s.store g.from))) in
              let top : record { kind = a_loop none all; floor = used s.store } ∷ scopes_in s g ≡ entries_in (held s) s.store g.from (entries scopes) =
              (λ i. record { kind = sym starts.means i; floor = charged (sym at i) } ∷ scopes_in s g) ∙ ap (entries_in (held s) s.store g.from) (sym pushed) in
              rw room
              (λ i. standing (frame_in (held s) s.here) s.here.pc (below_in s) (top i) (arguments_in s.store (left i)) (used s.store) (state s.sink.now))
          by (fails f) starts = absurd starts

  -- GOING ON

  module _ (target : ℕ) where
    pub loop_next_needs : Goes sink state g (LoopNext target) s → TopLoop s
    loop_next_needs goes = by (entries s.scopes) refl goes
      where
        by : (es : List Scope) → entries s.scopes ≡ es → ¬ (with_these sink state g s (LoopNext target) (entries s.values) es ≡ stuck) → TopLoop s
        by [] e goes = absurd (goes refl)
        by (x ∷ es) e goes = at x.state refl goes
          where
            at : (st : State) → x.state ≡ st
                → ¬ (with_these sink state g s (LoopNext target) (entries s.values) (record { state = st; floor = x.floor } ∷ es) ≡ stuck) → TopLoop s
            at states.ValueFn p goes = absurd (goes refl)
            at (states.Scope v) p goes = absurd (goes refl)
            at (states.Var template name v) p goes = absurd (goes refl)
            at (states.Loop l) p goes = record { loop = l; floor = x.floor; under = es; are = e ∙ (λ i. record { state = p i; floor = x.floor } ∷ es) }
            at states.Boundary p goes = absurd (goes refl)
