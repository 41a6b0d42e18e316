-- A state in which a value was made and pushed, or could not be.
use Rattle.std.proofs.Common.{◌≡◌, ℕ, ◌<◌, ◌≤◌, true, ltb, List, [], ◌∷◌, length, drop, Ok, Err, Result, refl, sym, ap, ◌∙◌, arith, lt-ltb, rules}
use Rattle.std.specs.Result.{IsOk}
use mathlib.Core.Option.{some}
use Rattle.meaning.specs.Charge.{Charge, cell_and_text, charge, one_cell}
use Rattle.meaning.specs.Expressions.{apply}
use Rattle.meaning.specs.Fault.{Fault}
use Rattle.meaning.specs.Hosts.{Sink}
use Rattle.meaning.specs.Or.{Or, fails, gives}
use Rattle.meaning.specs.Scopes.{look_up}
use Rattle.meaning.specs.Tree.{String}
use Rattle.meaning.specs.Value.{Value}
use Rattle.meaning.specs.declared.fault.Fault as code
use Rattle.meaning.specs.declared.tree.Member.{Member}
use Rattle.meaning.specs.declared.tree.Span.{Span}
use Rattle.decoder.specs.Decoding.{variable_of}
use Rattle.program.specs.Program.{Instr, Apply, ExprListPush, ExprMapInsert, ExprStartVar}
use Rattle.reader.specs.Fields.{members_of}
use Rattle.machine.specs.Machine.{Next, push_made, standing, visible}
use Rattle.machine.specs.Promise.{observing}
use Rattle.hosts.specs.Answers.{AllKnown, arguments_in}
use Rattle.hosts.specs.declared.answer.Argument.{Argument}
use Rattle.stack.specs.Entries.{Kept, Pushed, entries}
use Rattle.stack.specs.declared.Full.{Full}
use Rattle.stack.specs.declared.Stack.{Stack}
use Rattle.store.specs.Stores.{Over, supply, used, value}
use Rattle.store.specs.Values.{inserted, pushed as joined}
use Rattle.store.specs.declared.kinds.Kind.TheVariants as kinds
use Rattle.store.specs.declared.memory.Store.{Store}
use Rattle.scopes.specs.Entries.{entries_in}
use Rattle.scopes.specs.Searching.{looked_up, paid, var_of}
use Rattle.scopes.specs.Told.{Tells}
use Rattle.scopes.specs.declared.var.Var.{Var}
use Rattle.templates.specs.Held.{template_at}
use Rattle.scopes.proofs.Keeping.{over_entries, over_layered}
use Rattle.scopes.proofs.Steps.{variable_step}
use Rattle.expressions.specs.Calling.{arguments, calling}
use Rattle.expressions.specs.declared.calling.Call.{Call}
use Rattle.expressions.proofs.Calls.{taken_off}
use Rattle.expressions.specs.Pushing.{Pushes, RoomFor, Two}
use Rattle.expressions.proofs.Steps.{pushed, refused, room_for}
use Rattle.render.specs.Keeping.{Keeps}
use Rattle.render.specs.States.{ComesAt, Given, Goes, Same, Sound, SoundAfter, at_instr, below_in, frame_in, held, scopes_in, values_in, world_in}
use Rattle.render.specs.declared.state.RenderState.{RenderState}
use Rattle.render.proofs.Keeping.{keeps_over}
use Rattle.render.proofs.Joining.{into_list_is, into_map_is}

-- whatever comes of it, the store has grown
pub pushes_over : (before after : Store) (values values' : List Argument) (span : Span) (answer : Or Fault (Value × Charge)) (r : Result (Unit {0}) code.Fault)
    → Pushes before after values values' span answer r → Over before after
pushes_over before after values values' span (gives (v, tally)) (Ok done) h = h.over
pushes_over before after values values' span (gives (v, tally)) (Err g) h = absurd h
pushes_over before after values values' span (fails f) (Ok done) h = absurd h
pushes_over before after values values' span (fails f) (Err g) h = h.over

pushes_known : (before after : Store) (values values' : List Argument) (span : Span) (answer : Or Fault (Value × Charge))
    → Pushes before after values values' span answer (Ok tt) → AllKnown after values'
pushes_known before after values values' span (gives (v, tally)) h = h.known
pushes_known before after values values' span (fails f) h = absurd h

module _ {K : Type 0} (s : RenderState K) (store : Store) (values : Stack Argument) (kept : Kept s.values values) where
  abbrev grown : RenderState K
  grown =
      record { templates = s.templates; here = s.here; below = s.below; scopes = s.scopes; values = values; store = store; buffer = s.buffer; sink = s.sink }

  module _ (under : List Argument) (span : Span) (answer : Or Fault (Value × Charge)) where
    pub sound_grown : (r : Result (Unit {0}) code.Fault) → Pushes s.store store under (entries values) span answer r → Sound s → SoundAfter r grown
    sound_grown (Ok done) h sound = record {
      here_held = sound.here_held;
      below_held = sound.below_held;
      layered = over_layered (held s) s.store store (entries s.scopes) (pushes_over s.store store under (entries values) span answer (Ok tt) h) sound.layered;
      known = pushes_known s.store store under (entries values) span answer h;
      values_room = omega (arith, sound.values_room, kept.same_room);
      scopes_room = sound.scopes_room;
      open_room = sound.open_room;
      text_room = sound.text_room;
    }
    sound_grown (Err g) h sound = tt

    module _ (r : Result (Unit {0}) code.Fault) (h : Pushes s.store store under (entries values) span answer r) where
      pub same_grown : Same s grown
      same_grown = record {
        templates = refl;
        below = record { same_room = refl; lender = refl };
        scopes = record { same_room = refl; lender = refl };
        values = kept;
        memory = (pushes_over s.store store under (entries values) span answer r h).memory;
        buffer = refl;
        sink = refl;
      }

      pub keeps_grown : Keeps s grown
      keeps_grown = keeps_over s grown (pushes_over s.store store under (entries values) span answer r h) refl

module _ {K : Type 0} (sink : Sink) (state : K → sink.State) (g : Given) (i : Instr) (s : RenderState K) (under : List Argument) (span : Span)
    (answer : Or Fault (Value × Charge)) where
  -- the machine pushes the answer on these values
  abbrev pub PushesThere : Type 0
  PushesThere =
      at_instr sink state g i s
      ≡ push_made (observing sink.take) (world_in s g) (frame_in (held s) s.here) s.here.pc (below_in s) (scopes_in s g) (arguments_in s.store under)
      (state s.sink.now) span answer

  pub room_there : PushesThere → Goes sink state g i s → RoomFor answer under
  room_there is goes =
      room_for (observing sink.take) (world_in s g) (frame_in (held s) s.here) s.here.pc (below_in s) (scopes_in s g) (state s.sink.now) s.store s.store under
      under span answer (λ x. goes (is ∙ x))

  module _ (store : Store) (values : Stack Argument) (kept : Kept s.values values) (sound : Sound s) (few : RoomFor answer under) (is : PushesThere) where
    pub comes_grown : (r : Result (Unit {0}) code.Fault) → Pushes s.store store under (entries values) span answer r
        → ComesAt sink state g i s (grown s store values kept) r
    comes_grown (Ok done) h =
        let scopes : scopes_in s g ≡ entries_in (held s) store g.from (entries s.scopes) =
        sym (over_entries (held s) s.store store (entries s.scopes) g.from (pushes_over s.store store under (entries values) span answer (Ok tt) h) sound.layered) in
        is
        ∙ pushed (observing sink.take) (world_in s g) (frame_in (held s) s.here) s.here.pc (below_in s) (scopes_in s g) (state s.sink.now) s.store store under
        (entries values) span answer few h
        ∙ (λ j. standing (frame_in (held s) s.here) s.here.pc (below_in s) (scopes j) (arguments_in store (entries values)) (used store) (state s.sink.now))
    comes_grown (Err f) h =
        is
        ∙ refused (observing sink.take) (world_in s g) (frame_in (held s) s.here) s.here.pc (below_in s) (scopes_in s g) (state s.sink.now) s.store store under
        (entries values) span answer f h

-- two values of which one is made
module _ {K : Type 0} (sink : Sink) (state : K → sink.State) (g : Given) (s : RenderState K) where
  -- what is made of them is pushed in their place
  abbrev pub made_of_two : (under : List Argument) → Span → Charge → Value → Next sink.State
  made_of_two under span more v =
      push_made (observing sink.take) (world_in s g) (frame_in (held s) s.here) s.here.pc (below_in s) (scopes_in s g) (arguments_in s.store under)
      (state s.sink.now) span (charge (supply s.store) span more v (used s.store))

  pub list_joins : (two : Two s.store s.values kinds.List)
      → PushesThere sink state g ExprListPush s two.under two.second.span
      (charge (supply s.store) two.second.span one_cell (joined (value s.store two.second.value) (value s.store two.newest.value)) (used s.store))
  list_joins two = rw two.are (into_list_is (value s.store two.second.value) (value s.store two.newest.value) (made_of_two two.under two.second.span one_cell) two.is_kind)

  pub map_joins : (key : String) (two : Two s.store s.values kinds.Map)
      → PushesThere sink state g (ExprMapInsert key) s two.under two.second.span
      (charge (supply s.store) two.second.span (cell_and_text key.text) (inserted (value s.store two.second.value) key.text (value s.store two.newest.value)) (used s.store))
  map_joins key two = rw two.are (into_map_is key.text (value s.store two.second.value) (value s.store two.newest.value) (made_of_two two.under two.second.span (cell_and_text key.text)) two.is_kind)

-- what is told of by a function or a variable
pub told_not : (before after : Store) (values values' : List Argument) (span : Span) (answer : Or Fault (Value × Charge)) (f : code.Fault)
    → Tells before after answer (Err f) → Pushes before after values values' span answer (Err f)
told_not before after values values' span (gives (v, tally)) f h = absurd h
told_not before after values values' span (fails why) f h = h

instr_named : (members : List Member) (m : Member) (ms : List Member) (i : Instr) → members ≡ m ∷ ms → variable_of members ≡ some i
    → i ≡ ExprStartVar (record { first = m; rest = ms })
instr_named members m ms i whole named =
    let same : some (ExprStartVar (record { first = m; rest = ms })) ≡ some i = sym (ap variable_of whole) ∙ named in cc

module _ {K : Type 0} (sink : Sink) (state : K → sink.State) (g : Given) (s : RenderState K) (source : List ℕ)
    (is : source ≡ (template_at (held s) s.here.template).source) where
  pub call_pushes : (call : Call) → call.arity ≤ length (entries s.values)
      → PushesThere sink state g (Apply call.name call.arity call.whole) s (drop call.arity (entries s.values)) call.whole
      (apply (calling (supply s.store) g.hosts.callables) source [] call.name call.whole (arguments s.store call.arity (entries s.values)) (used s.store))
  call_pushes call there =
      taken_off s.store call.arity (entries s.values) _ there
      ∙ (λ j. push_made (observing sink.take) (world_in s g) (frame_in (held s) s.here) s.here.pc (below_in s) (scopes_in s g)
      (arguments_in s.store (drop call.arity (entries s.values))) (state s.sink.now) call.whole
      (apply (calling (supply s.store) g.hosts.callables) (sym is j) [] call.name call.whole (arguments s.store call.arity (entries s.values)) (used s.store)))

  abbrev made_of_value : Span → Or Fault (Value × Charge) → Next sink.State
  made_of_value span answer =
      push_made (observing sink.take) (world_in s g) (frame_in (held s) s.here) s.here.pc (below_in s) (scopes_in s g) (arguments_in s.store (entries s.values))
      (state s.sink.now) span answer

  pub variable_pushes : (v : Var) (i : Instr) (members : List Member) → v.source.now ≡ source → members ≡ v.first ∷ members_of v.rest → variable_of members ≡ some i
      → PushesThere sink state g i s (entries s.values) v.span (paid (supply s.store) v.span (looked_up v (visible (scopes_in s g))) (used s.store))
  variable_pushes v i members from whole named =
      rw (instr_named members v.first (members_of v.rest) i whole named)
      (variable_step (observing sink.take) (world_in s g) (frame_in (held s) s.here) s.here.pc (below_in s) (scopes_in s g) (values_in s) (state s.sink.now)
      (var_of v) (used s.store)
      ∙ (λ j. made_of_value (sym v.least j)
      (paid (supply s.store) (sym v.least j) (look_up (sym (from ∙ is) j) (visible (scopes_in s g)) (var_of v)) (used s.store))))

  -- the instruction that the variable is, and the room that there is for it
  pub variable_there : (v : Var) (members : List Member) → v.source.now ≡ source → members ≡ v.first ∷ members_of v.rest
      → ((i : Instr) → variable_of members ≡ some i → Goes sink state g i s)
      → RoomFor (paid (supply s.store) v.span (looked_up v (visible (scopes_in s g))) (used s.store)) (entries s.values)
  variable_there v members from whole goes =
      let i : Instr = ExprStartVar (var_of v) in
      let named : variable_of members ≡ some i = ap variable_of whole in
      room_there sink state g i s (entries s.values) v.span (paid (supply s.store) v.span (looked_up v (visible (scopes_in s g))) (used s.store))
      (variable_pushes v i members from whole named) (goes i named)

pub pushed_ok : {X : Type 0} (size : ℕ) (x : X) (r : Result (Unit {0}) Full) (before after : List X) → length before < size → Pushed size x r before after → IsOk r
pushed_ok size x (Ok done) before after few h = search rules
pushed_ok size x (Err full) before after few h = let yes : ltb (length before) size ≡ true = lt-ltb _ _ few in absurd cc
