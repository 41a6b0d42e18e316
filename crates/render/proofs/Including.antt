-- An include with in code is the machine's.
use Rattle.std.proofs.Common.{◌≡◌, ℕ, ◌+◌, ◌<◌, true, ◌∷◌, length, Ok, sym, ap, ◌∙◌, arith}
use Rattle.std.proofs.lemmas.List.{length-map}
use Rattle.meaning.specs.Charge.{Charge}
use Rattle.meaning.specs.Hosts.{Sink}
use Rattle.meaning.specs.Tree.{String}
use Rattle.program.specs.Program.{IncludeWith}
use Rattle.machine.specs.Machine.{a_boundary, a_scope, enter, most_scopes}
use Rattle.machine.specs.Promise.{compile_template, observing}
use Rattle.hosts.specs.Answers.{arguments_in}
use Rattle.hosts.specs.declared.answer.Argument.{Argument}
use Rattle.stack.specs.Entries.{entries}
use Rattle.stack.specs.declared.Stack.{Stack}
use Rattle.store.specs.Stores.{charged, used, value}
use Rattle.store.specs.declared.memory.Tally.{Tally}
use Rattle.scopes.specs.Entries.{entries_in, entry_in}
use Rattle.scopes.specs.declared.state.Scope.{Scope}
use Rattle.scopes.specs.declared.state.State.TheVariants as states
use Rattle.templates.specs.Held.{template_at}
use Rattle.render.specs.Finding.{Finds}
use Rattle.render.specs.States.{Includes, below_in, frame_in, held, open_in, scopes_in, world_in}
use Rattle.render.specs.declared.state.RenderState.{RenderState}
use Rattle.render.proofs.Finds.{found, opens_with}

module _ {K : Type 0} (sink : Sink) (state : K → sink.State) (s : RenderState K) where
  pub includes_with : (wanted : String) (i : ℕ) (v : Argument) (floor : Tally) (values : Stack Argument) (scopes : Stack Scope)
      → Finds (held s) wanted (Ok i) → entries s.values ≡ v ∷ entries values → charged floor ≡ used s.store
      → entries scopes ≡ record { state = states.Scope v.value; floor = floor } ∷ record { state = states.Boundary; floor = floor } ∷ entries s.scopes
      → length (entries s.scopes) + 1 < most_scopes
      → Includes sink state (IncludeWith wanted) true s
      (record { templates = s.templates; here = s.here; below = s.below; scopes = scopes; values = values; store = s.store; buffer = s.buffer; sink = s.sink }) (Ok i)
  includes_with wanted i v floor values scopes finds popped height pushed room = (
    finds.0,
    λ g.
        let scopes_are : entries_in (held s) s.store g.from (entries scopes)
        ≡ record { kind = a_scope (value s.store v.value); floor = used s.store } ∷ record { kind = a_boundary; floor = used s.store } ∷ scopes_in s g
        = ap (entries_in (held s) s.store g.from) pushed
        ∙ ap (λ (c : Charge). record { kind = a_scope (value s.store v.value); floor = c } ∷ record { kind = a_boundary; floor = c } ∷ scopes_in s g) height in
        opens_with (observing sink.take) (world_in s g) (frame_in (held s) s.here) s.here.pc (below_in s) wanted (value s.store v.value) v.span
        (scopes_in s g) _ (arguments_in s.store (entries values)) (used s.store) (state s.sink.now) (template_at (held s) i)
        (found (held s) wanted.text (template_at (held s) i) finds.2) (ap (arguments_in s.store) popped)
        (omega (arith, room, length-map (entries s.scopes) (entry_in (held s) s.store g.from)))
        ∙ (λ j. enter (observing sink.take) (world_in s g)
        (record { name = sym finds.1 j; compiled = compile_template (template_at (held s) i); scoped = true })
        (open_in (held s) s.here ∷ below_in s) (sym scopes_are j) (arguments_in s.store (entries values)) (used s.store) (state s.sink.now)),
  )
