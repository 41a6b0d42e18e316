-- A statement that offers a text to the sink comes to its end.
use Rattle.std.proofs.Common.{◌≡◌, ℕ, ◌<◌, ◌≤◌, List, [], ◌∷◌, map as each, length, drop, Ok, Err, Result, refl, sym, ap, ◌∙◌, subst, arith}
use mathlib.Core.Option.{none}
use Rattle.meaning.specs.Charge.{Charge}
use Rattle.meaning.specs.Expressions.{emit_call}
use Rattle.meaning.specs.Fault.{Fault, in_template}
use Rattle.meaning.specs.FaultRecords.{fault_of}
use Rattle.meaning.specs.Hosts.{Sink, ValueSource}
use Rattle.meaning.specs.Or.{Or, fails, gives}
use Rattle.meaning.specs.Reading.{Templates}
use Rattle.meaning.specs.Spans.{text_at}
use Rattle.meaning.specs.Value.{Text}
use Rattle.meaning.specs.declared.fault.Fault as code
use Rattle.meaning.specs.declared.tree.Span.{Span}
use Rattle.program.specs.Program.{Instr, Emit, EmitRaw, EmitWith}
use Rattle.machine.specs.Machine.{Next, execute, faulted, freed, hosting, running, standing, visible}
use Rattle.machine.specs.Promise.{observing}
use Rattle.hosts.specs.Answers.{AllKnown, arguments_in}
use Rattle.hosts.proofs.Arguments.{arguments_over}
use Rattle.hosts.specs.declared.answer.Argument.{Argument}
use Rattle.stack.specs.Entries.{entries}
use Rattle.store.specs.Stores.{Over, supply, used}
use Rattle.store.specs.declared.memory.Store.{Store}
use Rattle.scopes.specs.Entries.{entries_in}
use Rattle.scopes.specs.Layers.{Layered}
use Rattle.scopes.proofs.Keeping.{over_entries}
use Rattle.scopes.specs.declared.state.Scope.{Scope}
use Rattle.templates.specs.Held.{name_at, template_at, templates_of}
use Rattle.emission.specs.Offers.{Offers}
use Rattle.emission.specs.Emits.{Emits, EmitsNewest}
use Rattle.emission.proofs.Steps.{emitted, not_emitted, offered, not_offered}
use Rattle.expressions.specs.Calling.{arguments, asking}
use Rattle.expressions.specs.declared.calling.Call.{Call}
use Rattle.expressions.proofs.Calls.{known_under, taken_off}
use Rattle.render.specs.States.{Given, Goes, Rests, Same, at_instr, below_in, ending, floor_of, frame_in, held, open_in, scopes_in, state_in, values_in, world_in}
use Rattle.render.specs.declared.state.RenderState.{RenderState}
use Rattle.render.proofs.Ready.{clear_where_freed}

freed_clear : {M : Type 0} (templates : Templates) (s : Store) (from : ValueSource) (es : List Scope) (vs : List Argument) (next : Charge → Next M)
    → 0 < length es → vs ≡ [] → freed (entries_in templates s from es) (arguments_in s vs) next ≡ next (floor_of es)
freed_clear templates s from [] vs next some clear = absurd (omega arith)
freed_clear templates s from (e ∷ es) vs next some clear = rw clear refl

module _ {K : Type 0} (sink : Sink) (state : K → sink.State) (g : Given) where
  -- over these scopes, of this store and these values
  abbrev pub ending_over : RenderState K → Store → List Argument → sink.State → Next sink.State
  ending_over s store vs n =
      freed (entries_in (held s) store g.from (entries s.scopes)) (arguments_in store vs)
      (λ floor. standing (frame_in (held s) s.here) s.here.pc (below_in s) (entries_in (held s) store g.from (entries s.scopes)) (arguments_in store vs) floor n)

  pub clear_over : (i : Instr) (s : RenderState K) (store : Store) (vs : List Argument) (n : sink.State) → Goes sink state g i s
      → at_instr sink state g i s ≡ ending_over s store vs n → (0 < length (entries s.scopes)) × (vs ≡ [])
  clear_over i s store vs n goes e = clear_where_freed (held s) store g.from _ (entries s.scopes) vs (λ x. goes (e ∙ x))

  ends_at_rest : (t u : RenderState K) → (0 < length (entries t.scopes)) × (entries t.values ≡ []) → Same t u → Rests t u
      → ending sink state g t (state t.sink.now) ≡ running (state_in u g (state u.sink.now))
  ends_at_rest t u clear same rests =
      let values : values_in t ≡ values_in u =
      ap (arguments_in t.store) clear.1 ∙ sym (ap (arguments_in u.store) (ap entries rests.values ∙ clear.1)) in
      freed_clear (held t) t.store g.from (entries t.scopes) (entries t.values) _ clear.0 clear.1
      ∙ (λ i. standing (frame_in (templates_of (sym same.templates i).now) (sym rests.here i)) (sym rests.here i).pc
      (each (open_in (templates_of (sym same.templates i).now)) (entries (sym rests.below i))) (sym (rests.keeps g) i) (values i) (sym rests.floor i)
      (state (sym rests.sink i).now))

  pub clear_at_end : (i : Instr) (s t : RenderState K) → Goes sink state g i s → at_instr sink state g i s ≡ ending sink state g t (state t.sink.now)
      → (0 < length (entries t.scopes)) × (entries t.values ≡ [])
  clear_at_end i s t goes e = clear_where_freed (held t) t.store g.from _ (entries t.scopes) (entries t.values) (λ x. goes (e ∙ x))

  pub rested : (i : Instr) (s t u : RenderState K) → (0 < length (entries t.scopes)) × (entries t.values ≡ []) → Same t u → Rests t u
      → at_instr sink state g i s ≡ ending sink state g t (state t.sink.now) → at_instr sink state g i s ≡ running (state_in u g (state u.sink.now))
  rested i s t u clear same rests e = e ∙ ends_at_rest t u clear same rests

  -- where it is not stuck
  pub goes_to_rest : (i : Instr) (s t u : RenderState K) → Goes sink state g i s → Same t u → Rests t u
      → at_instr sink state g i s ≡ ending sink state g t (state t.sink.now) → at_instr sink state g i s ≡ running (state_in u g (state u.sink.now))
  goes_to_rest i s t u goes same rests e = rested i s t u (clear_at_end i s t goes e) same rests e

  module _ (s : RenderState K) (span : Span) (source : List ℕ) (is : source ≡ (template_at (held s) s.here.template).source) (n : sink.State) where
    pub raw_offered : Offers (state s.sink.now) n (text_at source span) none (sink.take (state s.sink.now) (text_at source span)) (Ok tt)
        → at_instr sink state g (EmitRaw span) s ≡ ending sink state g s n
    raw_offered h =
        offered sink (world_in s g) (frame_in (held s) s.here) s.here.pc (below_in s) (scopes_in s g) (values_in s) (state s.sink.now) n s.store s.store
        (text_at (template_at (held s) s.here.template).source span) none
        (subst (λ (bytes : List ℕ). Offers (state s.sink.now) n (text_at bytes span) none (sink.take (state s.sink.now) (text_at bytes span)) (Ok tt)) is h)

    pub raw_not_offered : (f : code.Fault)
        → Offers (state s.sink.now) n (text_at source span) none (sink.take (state s.sink.now) (text_at source span)) (Err f)
        → at_instr sink state g (EmitRaw span) s ≡ faulted (in_template (name_at (held s) s.here.template) (fault_of f)) (scopes_in s g) n
    raw_not_offered f h =
        not_offered sink (world_in s g) (frame_in (held s) s.here) s.here.pc (below_in s) (scopes_in s g) (values_in s) (state s.sink.now) n s.store s.store
        (text_at (template_at (held s) s.here.template).source span) none f
        (subst (λ (bytes : List ℕ). Offers (state s.sink.now) n (text_at bytes span) none (sink.take (state s.sink.now) (text_at bytes span)) (Err f)) is h)

  module _ (s : RenderState K) (n : sink.State) where
    pub value_offered : (vs : List Argument) → 0 < length (entries s.values) → vs ≡ drop 1 (entries s.values)
        → EmitsNewest s.store sink (state s.sink.now) n g.hosts.default_formatter (entries s.values) (Ok tt)
        → at_instr sink state g Emit s ≡ ending_over s s.store vs n
    value_offered vs there left h = by (entries s.values) there left h
      where
        by : (all : List Argument) → 0 < length all → vs ≡ drop 1 all
            → EmitsNewest s.store sink (state s.sink.now) n g.hosts.default_formatter all (Ok tt)
            → execute (observing sink.take) (world_in s g) (frame_in (held s) s.here) s.here.pc (below_in s) Emit (scopes_in s g) (arguments_in s.store all) (used s.store)
            (state s.sink.now) ≡ ending_over s s.store vs n
        by [] there left h = absurd (omega arith)
        by (v ∷ under) there left h =
            emitted sink (world_in s g) (frame_in (held s) s.here) s.here.pc (below_in s) (scopes_in s g) (arguments_in s.store under) (state s.sink.now) n s.store s.store
            _ (h v under refl (hosting (world_in s g)) (template_at (held s) s.here.template).source (visible (scopes_in s g)))
            ∙ ap (λ (rest : List Argument). ending_over s s.store rest n) (sym left)

    pub value_not_offered : (f : code.Fault) → 0 < length (entries s.values)
        → EmitsNewest s.store sink (state s.sink.now) n g.hosts.default_formatter (entries s.values) (Err f)
        → at_instr sink state g Emit s ≡ faulted (in_template (name_at (held s) s.here.template) (fault_of f)) (scopes_in s g) n
    value_not_offered f there h = by (entries s.values) there h
      where
        by : (all : List Argument) → 0 < length all
            → EmitsNewest s.store sink (state s.sink.now) n g.hosts.default_formatter all (Err f)
            → execute (observing sink.take) (world_in s g) (frame_in (held s) s.here) s.here.pc (below_in s) Emit (scopes_in s g) (arguments_in s.store all) (used s.store)
            (state s.sink.now) ≡ faulted (in_template (name_at (held s) s.here.template) (fault_of f)) (scopes_in s g) n
        by [] there h = absurd (omega arith)
        by (v ∷ under) there h =
            not_emitted sink (world_in s g) (frame_in (held s) s.here) s.here.pc (below_in s) (scopes_in s g) (arguments_in s.store under) (state s.sink.now) n s.store s.store
            _ f (h v under refl (hosting (world_in s g)) (template_at (held s) s.here.template).source (visible (scopes_in s g)))

  module _ (s : RenderState K) (after : Store) (n : sink.State) (call : Call) (source : List ℕ)
      (is : source ≡ (template_at (held s) s.here.template).source) (there : call.arity ≤ length (entries s.values)) where
    -- the text of the call
    abbrev pub text_of_call : List ℕ → Or Fault ((Text × Span) × Charge)
    text_of_call from =
        emit_call (asking (supply s.store) g.hosts.callables g.hosts.default_formatter) from [] call.name call.whole
        (arguments s.store call.arity (entries s.values)) (used s.store)

    abbrev pub CallEmits : Result (Unit {0}) code.Fault → Type 0
    CallEmits r = Emits s.store after sink (state s.sink.now) n (text_of_call source) r

    pub call_offered : (vs : List Argument) → vs ≡ drop call.arity (entries s.values) → Layered (held s) s.store (used s.store) (entries s.scopes)
        → AllKnown s.store (entries s.values) → Over s.store after → CallEmits (Ok tt)
        → at_instr sink state g (EmitWith call.name call.arity call.whole) s ≡ ending_over s after vs n
    call_offered vs left layered known over h =
        taken_off s.store call.arity (entries s.values) _ there
        ∙ emitted sink (world_in s g) (frame_in (held s) s.here) s.here.pc (below_in s) (scopes_in s g) (arguments_in s.store (drop call.arity (entries s.values)))
        (state s.sink.now) n s.store after (text_of_call (template_at (held s) s.here.template).source)
        (subst (λ (from : List ℕ). Emits s.store after sink (state s.sink.now) n (text_of_call from) (Ok tt)) is h)
        ∙ (λ i. freed (scopes i) (values i) (λ floor. standing (frame_in (held s) s.here) s.here.pc (below_in s) (scopes i) (values i) floor n))
      where
        scopes : scopes_in s g ≡ entries_in (held s) after g.from (entries s.scopes)
        scopes = sym (over_entries (held s) s.store after (entries s.scopes) g.from over layered)

        values : arguments_in s.store (drop call.arity (entries s.values)) ≡ arguments_in after vs
        values =
            sym (arguments_over s.store after (drop call.arity (entries s.values)) over (known_under s.store call.arity (entries s.values) known))
            ∙ sym (ap (arguments_in after) left)

    pub call_not_offered : (f : code.Fault) → CallEmits (Err f)
        → at_instr sink state g (EmitWith call.name call.arity call.whole) s
        ≡ faulted (in_template (name_at (held s) s.here.template) (fault_of f)) (scopes_in s g) n
    call_not_offered f h =
        taken_off s.store call.arity (entries s.values) _ there
        ∙ not_emitted sink (world_in s g) (frame_in (held s) s.here) s.here.pc (below_in s) (scopes_in s g) (arguments_in s.store (drop call.arity (entries s.values)))
        (state s.sink.now) n s.store after (text_of_call (template_at (held s) s.here.template).source) f
        (subst (λ (from : List ℕ). Emits s.store after sink (state s.sink.now) n (text_of_call from) (Err f)) is h)

-- whatever comes of it, the store has grown
pub emits_over : (before after : Store) (sink : Sink) (m n : sink.State) (text : Or Fault ((Text × Span) × Charge)) (r : Result (Unit {0}) code.Fault)
    → Emits before after sink m n text r → Over before after
emits_over before after sink m n (gives ((text, span), tally)) r h = h.over
emits_over before after sink m n (fails f) (Ok done) h = absurd h
emits_over before after sink m n (fails f) (Err g) h = h.told.over
