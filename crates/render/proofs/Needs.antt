-- What an instruction finds that is not stuck.
use Rattle.std.proofs.Common.{◌≡◌, ℕ, suc, ◌+◌, ◌<◌, ◌≤◌, Bool, true, false, cond, List, [], ◌∷◌, map as each, length, refl, ◌∙◌, arith, ltb-true}
use mathlib.Core.Option.{some}
use Rattle.std.proofs.lemmas.List.{length-map}
use Rattle.meaning.specs.Charge.{cell_and_text, one_cell}
use Rattle.meaning.specs.Hosts.{Sink}
use Rattle.meaning.specs.Reading.{Template, find}
use Rattle.meaning.specs.Tree.{String}
use Rattle.program.specs.Program.{Instr, Apply, Emit, EmitWith, ExprListPush, ExprMapInsert, WithStart, WithEnd, IncludeWith}
use Rattle.meaning.specs.declared.tree.Span.{Span}
use Rattle.machine.specs.Machine.{Next, close, execute, most_open, most_scopes, stuck}
use Rattle.machine.specs.Promise.{observing}
use Rattle.hosts.specs.Answers.{arguments_in}
use Rattle.hosts.specs.declared.answer.Argument.{Argument}
use Rattle.expressions.specs.Pushing.{Enough, Two}
use Rattle.expressions.proofs.Calls.{not_taken_off}
use Rattle.stack.specs.Entries.{entries}
use Rattle.store.specs.Stores.{used, value}
use Rattle.store.specs.declared.kinds.Kind.TheVariants as kinds
use Rattle.scopes.specs.Entries.{entries_in, entry_in}
use Rattle.scopes.specs.declared.state.Scope.{Scope}
use Rattle.scopes.specs.declared.state.State.{State}
use Rattle.scopes.specs.declared.state.State.TheVariants as states
use Rattle.render.specs.States.{Given, OneValue, SomeValue, Sound, EndsWith, Goes, below_in, frame_in, held, jump_if, open_in, opening, closing, EndsTemplate, Owned, under_own, world_in}
use Rattle.store.specs.declared.cell.Ref.{Ref}
use Rattle.render.specs.declared.state.Open.{Open}
use Rattle.render.specs.declared.state.RenderState.{RenderState}
use Rattle.render.proofs.Finds.{found}
use Rattle.render.proofs.Growing.{made_of_two}
use Rattle.render.proofs.Joining.{list_kind, map_kind}

-- where the other way is stuck, this is the way
pub the_way : {M : Type 0} (b : Bool) (x : Next M) → ¬ (cond b x stuck ≡ stuck) → b ≡ true
the_way true x goes = refl
the_way false x goes = absurd (goes refl)

inner_way : {M : Type 0} (b c : Bool) (x : Next M) → ¬ (cond b (cond c x stuck) stuck ≡ stuck) → c ≡ true
inner_way true c x goes = the_way c x goes
inner_way false c x goes = absurd (goes refl)

not_less : (a b : ℕ) → ¬ (b < a) → a ≤ b
not_less a b h = omega (arith, h)

module _ {K : Type 0} (sink : Sink) (state : K → sink.State) (g : Given) (s : RenderState K) where
  -- where these values and scopes stand
  abbrev pub with_these : Instr → List Argument → List Scope → Next sink.State
  with_these i vs es =
      execute (observing sink.take) (world_in s g) (frame_in (held s) s.here) s.here.pc (below_in s) i (entries_in (held s) s.store g.from es)
      (arguments_in s.store vs) (used s.store) (state s.sink.now)

  pub emit_needs : Goes sink state g Emit s → 0 < length (entries s.values)
  emit_needs goes = by (entries s.values) goes
    where
      by : (vs : List Argument) → ¬ (with_these Emit vs (entries s.scopes) ≡ stuck) → 0 < length vs
      by [] goes = absurd (goes refl)
      by (v ∷ vs) goes = omega arith

  pub emit_with_needs : (name whole : Span) (n : ℕ) → Goes sink state g (EmitWith name n whole) s → n ≤ length (entries s.values)
  emit_with_needs name whole n goes = not_less n (length (entries s.values)) (λ few. goes (not_taken_off s.store n [] (entries s.values) _ few))

  pub list_push_needs : Goes sink state g ExprListPush s → Two s.store s.values kinds.List
  list_push_needs goes = by (entries s.values) refl goes
    where
      by : (vs : List Argument) → entries s.values ≡ vs → ¬ (with_these ExprListPush vs (entries s.scopes) ≡ stuck) → Two s.store s.values kinds.List
      by [] e goes = absurd (goes refl)
      by (v ∷ []) e goes = absurd (goes refl)
      by (v ∷ w ∷ vs) e goes = record {
        newest = v;
        second = w;
        under = vs;
        are = e;
        is_kind = list_kind (value s.store w.value) (value s.store v.value) (made_of_two sink state g s vs w.span one_cell) goes;
      }

  pub map_insert_needs : (key : String) → Goes sink state g (ExprMapInsert key) s → Two s.store s.values kinds.Map
  map_insert_needs key goes = by (entries s.values) refl goes
    where
      by : (vs : List Argument) → entries s.values ≡ vs → ¬ (with_these (ExprMapInsert key) vs (entries s.scopes) ≡ stuck) → Two s.store s.values kinds.Map
      by [] e goes = absurd (goes refl)
      by (v ∷ []) e goes = absurd (goes refl)
      by (v ∷ w ∷ vs) e goes = record {
        newest = v;
        second = w;
        under = vs;
        are = e;
        is_kind = map_kind key.text (value s.store w.value) (value s.store v.value) (made_of_two sink state g s vs w.span (cell_and_text key.text)) goes;
      }

  pub apply_needs : (name whole : Span) (n : ℕ) → Sound s → Goes sink state g (Apply name n whole) s → Enough n s.values
  apply_needs name whole n sound goes = record {
    there = not_less n (length (entries s.values)) (λ few. goes (not_taken_off s.store n [] (entries s.values) _ few));
    roomy = sound.values_room;
  }

  pub branch_needs : (when : Bool) (target : ℕ) → Goes sink state g (jump_if when target) s → OneValue s × (0 < length (entries s.scopes))
  branch_needs when target goes = by when (entries s.values) refl (entries s.scopes) refl goes
    where
      by : (when : Bool) (vs : List Argument) → entries s.values ≡ vs → (es : List Scope) → entries s.scopes ≡ es
          → ¬ (with_these (jump_if when target) vs es ≡ stuck) → OneValue s × (0 < length (entries s.scopes))
      by true [] e es f goes = absurd (goes refl)
      by true (v ∷ []) e [] f goes = absurd (goes refl)
      by true (v ∷ []) e (x ∷ es) f goes = (record { value = v; are = e }, rw f (omega arith))
      by true (v ∷ w ∷ vs) e [] f goes = absurd (goes refl)
      by true (v ∷ w ∷ vs) e (x ∷ es) f goes = absurd (goes refl)
      by false [] e es f goes = absurd (goes refl)
      by false (v ∷ []) e [] f goes = absurd (goes refl)
      by false (v ∷ []) e (x ∷ es) f goes = (record { value = v; are = e }, rw f (omega arith))
      by false (v ∷ w ∷ vs) e [] f goes = absurd (goes refl)
      by false (v ∷ w ∷ vs) e (x ∷ es) f goes = absurd (goes refl)

  -- as many scopes as the machine sees
  room_here : length (entries_in (held s) s.store g.from (entries s.scopes)) < most_scopes → length (entries s.scopes) < most_scopes
  room_here l = omega (arith, l, length-map (entries s.scopes) (entry_in (held s) s.store g.from))

  pub with_needs : (alias : Span) → Goes sink state g (WithStart alias) s → SomeValue s × (length (entries s.scopes) < most_scopes)
  with_needs alias goes = by (entries s.values) refl goes
    where
      by : (vs : List Argument) → entries s.values ≡ vs → ¬ (with_these (WithStart alias) vs (entries s.scopes) ≡ stuck)
          → SomeValue s × (length (entries s.scopes) < most_scopes)
      by [] e goes = absurd (goes refl)
      by (v ∷ vs) e goes = (record { value = v; under = vs; are = e }, room_here (ltb-true _ _ (the_way _ _ goes)))

  pub with_end_needs : Goes sink state g WithEnd s → EndsWith s
  with_end_needs goes = by (entries s.scopes) refl (entries s.values) refl goes
    where
      by : (es : List Scope) → entries s.scopes ≡ es → (vs : List Argument) → entries s.values ≡ vs → ¬ (with_these WithEnd vs es ≡ stuck) → EndsWith s
      by [] e vs f goes = absurd (goes refl)
      by (x ∷ es) e vs f goes = at x.state refl es refl vs refl goes
        where
          at : (st : State) → x.state ≡ st → (under : List Scope) → es ≡ under → (ws : List Argument) → vs ≡ ws
              → ¬ (with_these WithEnd ws (record { state = st; floor = x.floor } ∷ under) ≡ stuck) → EndsWith s
          at states.ValueFn p under q ws r goes = absurd (goes refl)
          at (states.Scope v) p under q ws r goes = absurd (goes refl)
          at (states.Loop l) p under q ws r goes = absurd (goes refl)
          at states.Boundary p under q ws r goes = absurd (goes refl)
          at (states.Var template name v) p [] q ws r goes = absurd (goes refl)
          at (states.Var template name v) p (y ∷ under) q [] r goes =
              record {
                template = template;
                name = name;
                value = v;
                floor = x.floor;
                under = y ∷ under;
                are = e ∙ (λ i. record { state = p i; floor = x.floor } ∷ q i);
                outer = omega arith;
                clear = f ∙ r;
              }
          at (states.Var template name v) p (y ∷ under) q (w ∷ ws) r goes = absurd (goes refl)

  pub include_with_needs : (wanted : String) → Goes sink state g (IncludeWith wanted) s
      → SomeValue s × ((template : Template) → find (held s) wanted.text ≡ some template → length (entries s.scopes) + 1 < most_scopes)
  include_with_needs wanted goes = by (entries s.values) refl goes
    where
      by : (vs : List Argument) → entries s.values ≡ vs → ¬ (with_these (IncludeWith wanted) vs (entries s.scopes) ≡ stuck)
          → SomeValue s × ((template : Template) → find (held s) wanted.text ≡ some template → length (entries s.scopes) + 1 < most_scopes)
      by [] e goes = absurd (goes refl)
      by (v ∷ vs) e goes = (
        record { value = v; under = vs; are = e },
        λ template is.
            let l : suc (length (entries_in (held s) s.store g.from (entries s.scopes))) < most_scopes = ltb-true _ _ (inner_way _ _ _ (rw (found (held s) wanted.text template is) at goes)) in
            omega (arith, l, length-map (entries s.scopes) (entry_in (held s) s.store g.from)),
      )

  -- TEMPLATES

  pub enter_needs : (template : ℕ) (scoped : Bool) → ¬ (opening sink state g template scoped s ≡ stuck) → length (entries s.below) + 1 < most_open
  enter_needs template scoped goes =
      let l : suc (length (below_in s)) < most_open = ltb-true _ _ (the_way _ _ goes) in omega (arith, l, length-map (entries s.below) (open_in (held s)))

  -- with this over these scopes
  abbrev closed : Bool → List Open → List Scope → List Argument → Next sink.State
  closed scoped os es vs =
      close (observing sink.take) (world_in s g) scoped (each (open_in (held s)) os) (entries_in (held s) s.store g.from es)
      (arguments_in s.store vs) (used s.store) (state s.sink.now)

  over_boundary : (x : Scope) (r : Ref) (es : List Scope) → entries s.scopes ≡ x ∷ es → x.state ≡ states.Scope r → (os : List Open) (vs : List Argument)
      → ¬ (closed true os (record { state = states.Scope r; floor = x.floor } ∷ es) vs ≡ stuck) → Owned true (entries s.scopes)
  over_boundary x r [] e p os vs goes = absurd (goes refl)
  over_boundary x r (y ∷ under) e p os vs goes = by y.state refl goes
    where
      by : (st : State) → y.state ≡ st
          → ¬ (closed true os (record { state = states.Scope r; floor = x.floor } ∷ record { state = st; floor = y.floor } ∷ under) vs ≡ stuck)
          → Owned true (entries s.scopes)
      by states.Boundary q goes = (x, y, under, r, e, p, q)
      by states.ValueFn q goes = absurd (goes refl)
      by (states.Scope v) q goes = absurd (goes refl)
      by (states.Var t n v) q goes = absurd (goes refl)
      by (states.Loop l) q goes = absurd (goes refl)

  owned : (scoped : Bool) (os : List Open) (es : List Scope) (vs : List Argument) → entries s.scopes ≡ es → ¬ (closed scoped os es vs ≡ stuck)
      → Owned scoped (entries s.scopes)
  owned false os es vs e goes = tt
  owned true os [] vs e goes = absurd (goes refl)
  owned true os (x ∷ es) vs e goes = by x.state refl goes
    where
      by : (st : State) → x.state ≡ st → ¬ (closed true os (record { state = st; floor = x.floor } ∷ es) vs ≡ stuck) → Owned true (entries s.scopes)
      by (states.Scope r) p goes = over_boundary x r es e p os vs goes
      by states.ValueFn p goes = absurd (goes refl)
      by states.Boundary p goes = absurd (goes refl)
      by (states.Var t n v) p goes = absurd (goes refl)
      by (states.Loop l) p goes = absurd (goes refl)

  -- another goes on, over these scopes
  rests : (o : Open) (os : List Open) (es : List Scope) (vs : List Argument) → ¬ (closed false (o ∷ os) es vs ≡ stuck) → (0 < length es) × (vs ≡ [])
  rests o os [] vs goes = absurd (goes refl)
  rests o os (x ∷ es) [] goes = (omega arith, refl)
  rests o os (x ∷ es) (v ∷ vs) goes = absurd (goes refl)

  under_owned : (scoped : Bool) (o : Open) (os : List Open) (es : List Scope) (vs : List Argument) → Owned scoped es → ¬ (closed scoped (o ∷ os) es vs ≡ stuck)
      → (0 < length (under_own scoped es)) × (vs ≡ [])
  under_owned false o os es vs own goes = rests o os es vs goes
  under_owned true o os es vs (x, y, under, r, e, p, q) goes = rw e (rests o os under vs (λ stuck_there. rw (e, p, q) at goes stuck_there))

  pub close_needs : ¬ (closing sink state g s ≡ stuck) → EndsTemplate s
  close_needs goes =
      let own = owned s.here.scoped (entries s.below) (entries s.scopes) (entries s.values) refl goes in
      record { own = own; rests = by (entries s.below) goes own }
    where
      by : (os : List Open) → ¬ (closed s.here.scoped os (entries s.scopes) (entries s.values) ≡ stuck) → Owned s.here.scoped (entries s.scopes)
          → 0 < length os → (0 < length (under_own s.here.scoped (entries s.scopes))) × (entries s.values ≡ [])
      by [] goes own more = absurd (omega (arith, more))
      by (o ∷ os) goes own more = under_owned s.here.scoped o os (entries s.scopes) (entries s.values) own goes
