-- What each step can fail with, and what each statement offers.
use Rattle.std.proofs.Common.{◌≡◌, ℕ, zero, suc, ◌≤◌, Bool, true, false, cond, leb, ◌⊎◌, List, [], ◌∷◌, ◌++◌, length, codes, map as each, sym, refl, subst, inl, inr, leb-true}
use mathlib.Core.Option.{Option, none, some}
use Rattle.std.specs.Str.{bytes_eq as same_text}
use Rattle.meaning.specs.Or.{Or, fails, gives}
use Rattle.meaning.specs.Step.{from, continue}
use Rattle.meaning.specs.Value.{Value, none as none_value, boolean, integer, float, string, list, map, Items, no_items, Entries, no_entries, Text}
use Rattle.meaning.specs.declared.tree.Span.{Span}
use Rattle.meaning.specs.declared.tree.Access.{Access}
use Rattle.meaning.specs.declared.tree.Access.TheVariants.{Index, Key}
use Rattle.meaning.specs.declared.tree.AccessOp.{AccessOp}
use Rattle.meaning.specs.declared.tree.AccessOp.TheVariants.{Direct, Optional}
use Rattle.meaning.specs.declared.tree.Member.{Member}
use Rattle.meaning.specs.Tree.{String, Var, Expr, Base, Filter, BaseExpr, Variable, Literal, ListOf, MapOf, Paren, Call, Args, no_args, arg, Pairs, no_pairs, pair, LoopVars, Item, KeyValue, Stmt, Raw, Inline, Include, IncludeWith, If, IfElse, For, With, Scope, done, ◌then◌}
use Rattle.meaning.specs.Spans.{text_at, access_span, var_span, value_span, base_value_span, expr_span}
use Rattle.meaning.specs.declared.fault.Cause.{Cause}
use Rattle.meaning.specs.declared.fault.Cause.TheVariants.{TooManyOpen, StoreFull, TextTooLong, UnknownTemplate}
use Rattle.meaning.specs.Fault.{Fault, fault, fault_at}
use Rattle.meaning.specs.Parts.{nth, value_of, append, insert}
use Rattle.meaning.specs.Charge.{Charge, one_cell, cell_and_text, cost, within, ◌⊕◌, Make, charge}
use Rattle.meaning.specs.Hosts.{Callable, nothing, formatter, function, Function, Formatter, Refusal}
use Rattle.meaning.specs.Walk.{Wanted, index, key, Walked, found, missed, failed, found_or, absent, part_at, part, walk}
use Rattle.meaning.specs.Scopes.{Visible, parts_of, named, looping, asking, boundary, Current, one_item, one_entry, Turn, Had, stored, ask, had_or_fault, walked, no_further, loop_member, loop_variable, loop_value, in_item, in_current, in_turn, answered, look_up}
use Rattle.meaning.specs.Reading.{Piece, Event, offers, End, finished, faulted, Reading, ◌followed_by◌, Template, find, Setting}
use Rattle.meaning.specs.Expressions.{Argument, blamed, answer_at, ask_function, apply, read_expr, read_base, read_args, read_items, read_pairs, short_enough, write, write_one, emit_value, emit_call, emit, emit_base}
use Rattle.meaning.specs.Statements.{Included, in_order, turns, once_had, template_named, passes, having, read_stmt, read_scope}
use Rattle.laws.specs.Places.{Place, opening, reads}
use Rattle.laws.proofs.Boundary.{templates_are_read}
use Rattle.meaning.specs.Spans.{combine}
use Rattle.laws.proofs.Spans.{MembersGood, ExprGood, BaseGood, ArgsGood, PairsGood, VarsGood, StmtGood, ScopeGood, var_good, value_good, base_value_good, expr_good, every_scope}
use Rattle.laws.specs.Faults.{is_of_a_span, IsRead, AtASpan, FaultsSayWhere, RawOrShort, raw, short, Pieces, PiecesSayWhere}

-- each span of the tree is good, and so is each that is made of two
module _ (Good : Span → Type 0) (joins : (a b : Span) → Good a → Good b → Good (combine a b)) where
  -- WHAT STEPS FAIL WITH

  -- a fault at a good span, of such a cause
  abbrev pub Spanned : Fault → Type 0
  Spanned f = (span : Span) × (f.span ≡ some span) × Good span × (is_of_a_span f.cause ≡ true)

  abbrev pub Fails : {A : Type 0} → Or Fault A → Type 0
  Fails (fails f) = Spanned f
  Fails (gives a) = Unit {0}

  -- it fails so, or what it gives has a property
  abbrev pub Does : {A : Type 0} → (A → Type 0) → Or Fault (A × Charge) → Type 0
  Does P (fails f) = Spanned f
  Does P (gives (a, held)) = P a

  abbrev Any : {A : Type 0} → A → Type 0
  Any a = Unit {0}

  then_does : {A B : Type 0} (P : A → Type 0) (Q : B → Type 0) (r : Or Fault (A × Charge)) (next : A → Make B) →
      Does P r → ((a : A) (held : Charge) → P a → Does Q (next a held)) → Does Q (continue r next)
  then_does P Q (fails f) next ok h = ok
  then_does P Q (gives (a, held)) next ok h = h a held ok

  from_does : {A : Type 0} (o : Or Fault A) (used : Charge) → Fails o → Does Any (from o used)
  from_does (fails f) used ok = ok
  from_does (gives a) used ok = tt

  charge_does : {A : Type 0} (supply : Charge) (span : Span) → Good span → (more : Charge) (a : A) (used : Charge) →
      Does Any (charge supply span more a used)
  charge_does {A} supply span good more a used = by (within supply (used ⊕ more))
    where
      by : (x : Bool) → Does {A = A} Any (cond x (gives (a, used ⊕ more)) (fails (fault_at StoreFull span 0)))
      by true = tt
      by false = (span, refl, good, refl)

  -- WALKS

  abbrev WalkFails : Walked Member → Type 0
  WalkFails (found v) = Unit {0}
  WalkFails missed = Unit {0}
  WalkFails (failed m cause detail) = Good m.span × (is_of_a_span cause ≡ true)

  module _ (source : List ℕ) where
    there_or_not : (o : Option Value) (op : AccessOp) (m : Member) (c : Cause) (d : ℕ) → Good m.span → is_of_a_span c ≡ true →
        WalkFails (found_or o (absent op (failed m c d)))
    there_or_not (some v) op m c d good ok = tt
    there_or_not none Direct m c d good ok = (good, ok)
    there_or_not none Optional m c d good ok = tt

    part_fails : (v : Value) (m : Member) → Good m.span → WalkFails (part (ask source) v m)
    part_fails v m good = by v (ask source m).op (ask source m).wanted
      where
        by : (v : Value) (op : AccessOp) (wanted : Wanted) → WalkFails (part_at m op v wanted)
        by none_value op (index n) = (good, refl)
        by (boolean b) op (index n) = (good, refl)
        by (integer i) op (index n) = (good, refl)
        by (float bits) op (index n) = (good, refl)
        by (string s) op (index n) = (good, refl)
        by (list xs) op (index n) = there_or_not (nth xs n) op m _ _ good refl
        by (map es) op (index n) = (good, refl)
        by none_value op (key k) = (good, refl)
        by (boolean b) op (key k) = (good, refl)
        by (integer i) op (key k) = (good, refl)
        by (float bits) op (key k) = (good, refl)
        by (string s) op (key k) = (good, refl)
        by (list xs) op (key k) = (good, refl)
        by (map es) op (key k) = there_or_not (value_of es k) op m _ _ good refl

    walk_fails : (v : Value) (ms : List Member) → MembersGood Good ms → WalkFails (walk (ask source) v ms)
    walk_fails v [] good = tt
    walk_fails v (m ∷ ms) good = by (part (ask source) v m) (part_fails v m good.0) (λ w. walk_fails w ms good.1)
      where
        by : (result : Walked Member) → WalkFails result → ((w : Value) → WalkFails (walk (ask source) w ms)) →
            WalkFails (elim result [ found w ↦ walk (ask source) w ms | missed ↦ missed | failed y c d ↦ failed y c d ])
        by (found w) ok h = h w
        by missed ok h = tt
        by (failed y c d) ok h = ok

    -- VARIABLES

    had_fails : (result : Walked Member) (have : Value → Had) → WalkFails result → Fails (had_or_fault source result have)
    had_fails (found v) have ok = tt
    had_fails missed have ok = tt
    had_fails (failed m c d) have ok = (m.span, refl, ok.0, ok.1)

    walked_fails : (v : Value) (ms : List Member) → MembersGood Good ms → Fails (walked source v ms)
    walked_fails v ms good = had_fails (walk (ask source) v ms) stored (walk_fails v ms good)

    further_fails : (had : Or Fault Had) (ms : List Member) → MembersGood Good ms → Fails had → Fails (no_further source had ms)
    further_fails had [] good ok = ok
    further_fails (fails f) (m ∷ ms) good ok = ok
    further_fails (gives (v, c)) (m ∷ ms) good ok = (m.span, refl, good.0, refl)

    loop_fails : (loop : Value) (ms : List Member) → MembersGood Good ms → Fails (loop_variable source loop ms)
    loop_fails loop [] good = tt
    loop_fails loop (m ∷ ms) good = further_fails (loop_member source loop m m.access) ms good.1 (by m.access)
      where
        by : (access : Access) → Fails (loop_member source loop m access)
        by (Index n span) = (m.span, refl, good.0, refl)
        by (Key span) = had_fails (part (ask source) loop m) _ (part_fails loop m good.0)

    abbrev MayFail : Option (Or Fault Had) → Type 0
    MayFail (some had) = Fails had
    MayFail none = Unit {0}

    item_fails : (v : Value) (ms : List Member) → MembersGood Good ms → MayFail (in_item source v ms)
    item_fails v ms good = by (walk (ask source) v ms) (walk_fails v ms good)
      where
        by : (result : Walked Member) → WalkFails result →
            MayFail (elim result [ found w ↦ some (gives (stored w)) | missed ↦ none | failed m c d ↦ some (fails (fault_at c m.span d)) ])
        by (found w) ok = tt
        by missed ok = tt
        by (failed m c d) ok = (m.span, refl, ok.0, ok.1)

    either : (x : Bool) (o p : Option (Or Fault Had)) → MayFail o → MayFail p → MayFail (cond x o p)
    either true o p h k = h
    either false o p h k = k

    current_fails : (current : Current) (name : Text) (ms : List Member) → MembersGood Good ms → MayFail (in_current source current name ms)
    current_fails (one_item item_name v) name ms good = either (same_text name item_name) _ _ (item_fails v ms good) tt
    current_fails (one_entry key_name value_name k v) name ms good =
        either (same_text name key_name) (some (no_further source (gives (string k, one_cell)) ms)) _
        (further_fails (gives (string k, one_cell)) ms good tt)
        (either (same_text name value_name) _ _ (item_fails v ms good) tt)

    turn_fails : (turn : Turn) (access : Access) (ms : List Member) → MembersGood Good ms → MayFail (in_turn source turn access ms)
    turn_fails turn (Index n span) ms good = tt
    turn_fails turn (Key span) ms good =
        either (same_text (text_at source span) (codes "loop")) (some (loop_variable source (loop_value turn) ms)) _ (loop_fails (loop_value turn) ms good)
        (current_fails turn.current (text_at source span) ms good)

    look_up_fails : (visible : List Visible) (v : Var) → BaseGood Good (Variable v) → Fails (look_up source visible v)
    unfolding look_up
    look_up_fails [] v good = (v.first.span, refl, good.0, refl)
    look_up_fails (parts_of w ∷ outer) v good = by (part (ask source) w v.first) (look_up_fails outer v good)
      where
        by : (result : Walked Member) → Fails (look_up source outer v) →
            Fails {A = Had} (elim result [ found p ↦ walked source p v.rest | missed ↦ gives (stored none_value) | failed m c d ↦ look_up source outer v ])
        by (found p) h = walked_fails p v.rest good.1
        by missed h = tt
        by (failed m c d) h = h
    look_up_fails (named name w ∷ outer) v good = by (same_text name (text_at source (access_span v.first.access))) (look_up_fails outer v good)
      where
        by : (x : Bool) → Fails (look_up source outer v) → Fails {A = Had} (elim x [ true ↦ walked source w v.rest | false ↦ look_up source outer v ])
        by true h = walked_fails w v.rest good.1
        by false h = h
    look_up_fails (looping t ∷ outer) v good =
        by (in_turn source t v.first.access v.rest) (turn_fails t v.first.access v.rest good.1) (look_up_fails outer v good)
      where
        by : (o : Option (Or Fault Had)) → MayFail o → Fails (look_up source outer v) → Fails {A = Had} (elim o [ some had ↦ had | none ↦ look_up source outer v ])
        by (some had) ok h = ok
        by none ok h = h
    look_up_fails (asking asked ∷ outer) v good = by (asked (each (ask source) (v.first ∷ v.rest)))
      where
        by : (o : Or ℕ Value) → Fails (answered source (var_span v) o)
        by (fails reason) = (var_span v, refl, var_good Good joins v good, refl)
        by (gives w) = tt
    look_up_fails (boundary ∷ outer) v good = (v.first.span, refl, good.0, refl)

  -- EXPRESSIONS

  abbrev Arguments : List Argument → Type 0
  Arguments [] = Unit {0}
  Arguments (a ∷ args) = Good a.1 × Arguments args

  blamed_good : (args : List Argument) (blame : Option ℕ) (call : Span) → Arguments args → Good call → Good (blamed blame args call)
  blamed_good args none call good of_call = of_call
  blamed_good [] (some n) call good of_call = of_call
  blamed_good (a ∷ args) (some zero) call good of_call = good.0
  blamed_good (a ∷ args) (some (suc n)) call good of_call = blamed_good args (some n) call good.1 of_call

  module _ (setting : Setting) (source : List ℕ) (visible : List Visible) where
    ask_does : (f : Function) (call whole : Span) (args : List Argument) → Good call → Good whole → Arguments args → (used : Charge) →
        Does Any (ask_function setting.supply f call whole args used)
    ask_does f call whole args of_call of_whole good used =
        then_does Any Any (from (answer_at call args (f (each (λ a. a.0) args))) used) _ (from_does _ used (by (f (each (λ a. a.0) args)))) λ v held any.
        charge_does setting.supply whole of_whole (cost v) v held
      where
        by : (o : Or Refusal Value) → Fails (answer_at call args o)
        by (gives v) = tt
        by (fails r) = (blamed r.argument args call, refl, blamed_good args r.argument call good of_call, refl)

    -- the setting in which every name stands for the same
    abbrev calling : Callable → Setting
    calling c =
        record {
          supply = setting.supply;
          templates = setting.templates;
          hosts = record { callables = λ name. c; default_formatter = setting.hosts.default_formatter };
        }

    apply_does : (name whole : Span) (args : List Argument) → Good name → Good whole → Arguments args → (used : Charge) →
        Does Any (apply setting source visible name whole args used)
    apply_does name whole args of_name of_whole good used = by (setting.hosts.callables (text_at source name))
      where
        by : (c : Callable) → Does Any (apply (calling c) source visible name whole args used)
        by nothing = (name, refl, of_name, refl)
        by (formatter f) = (name, refl, of_name, refl)
        by (function f) = ask_does f whole whole args of_whole of_whole good used

    mutual
      unfolding read_expr

      expr_does : (e : Expr) → ExprGood Good e → (used : Charge) → Does Any (read_expr setting source visible e used)
      expr_does (Base b) good used = base_does b good used
      expr_does (Filter name whole receiver args) good used =
          then_does Any Any (read_expr setting source visible receiver used) _ (expr_does receiver good.2 used) λ v held any.
          then_does Arguments Any (read_args setting source visible args held) _ (args_do args good.3 held) λ vs last all.
          apply_does name whole ((v, value_span receiver) ∷ vs) good.0 good.1 (value_good Good joins receiver good.2, all) last

      base_does : (b : BaseExpr) → BaseGood Good b → (used : Charge) → Does Any (read_base setting source visible b used)
      base_does (Variable v) good used =
          then_does Any Any (from (look_up source visible v) used) _ (from_does _ used (look_up_fails source visible v good)) λ had held any.
          charge_does setting.supply (var_span v) (var_good Good joins v good) had.1 had.0 held
      base_does (Literal span v) good used = charge_does setting.supply span good (cost v) v used
      base_does (ListOf span items) good used =
          then_does Any Any (charge setting.supply span one_cell no_items used) _ (charge_does setting.supply span good.0 one_cell no_items used)
          λ empty held any.
          then_does Any Any (read_items setting source visible items span empty held) _ (items_do items good.1 span good.0 empty held) λ full last any.
          tt
      base_does (MapOf span pairs) good used =
          then_does Any Any (charge setting.supply span one_cell no_entries used) _ (charge_does setting.supply span good.0 one_cell no_entries used)
          λ empty held any.
          then_does Any Any (read_pairs setting source visible pairs span empty held) _ (pairs_do pairs good.1 span good.0 empty held) λ full last any.
          tt
      base_does (Paren span e) good used = expr_does e good.1 used
      base_does (Call name whole args) good used =
          then_does Arguments Any (read_args setting source visible args used) _ (args_do args good.2 used) λ vs held all.
          apply_does name whole vs good.0 good.1 all held

      args_do : (args : Args) → ArgsGood Good args → (used : Charge) → Does Arguments (read_args setting source visible args used)
      args_do no_args good used = tt
      args_do (arg b rest) good used =
          then_does Any Arguments (read_base setting source visible b used) _ (base_does b good.0 used) λ v held any.
          then_does Arguments Arguments (read_args setting source visible rest held) _ (args_do rest good.1 held) λ vs last all.
          (base_value_good Good joins b good.0, all)

      items_do : (args : Args) → ArgsGood Good args → (span : Span) → Good span → (so_far : Items) (used : Charge) →
          Does Any (read_items setting source visible args span so_far used)
      items_do no_args good span of_span so_far used = tt
      items_do (arg b rest) good span of_span so_far used =
          then_does Any Any (read_base setting source visible b used) _ (base_does b good.0 used) λ v held any.
          then_does Any Any (charge setting.supply span one_cell (append so_far v) held) _
          (charge_does setting.supply span of_span one_cell (append so_far v) held) λ more last any.
          items_do rest good.1 span of_span more last

      pairs_do : (pairs : Pairs) → PairsGood Good pairs → (span : Span) → Good span → (so_far : Entries) (used : Charge) →
          Does Any (read_pairs setting source visible pairs span so_far used)
      pairs_do no_pairs good span of_span so_far used = tt
      pairs_do (pair k b rest) good span of_span so_far used =
          then_does Any Any (read_base setting source visible b used) _ (base_does b good.0 used) λ v held any.
          then_does Any Any (charge setting.supply span (cell_and_text k.text) (insert k.text v so_far) held) _
          (charge_does setting.supply span of_span (cell_and_text k.text) (insert k.text v so_far) held) λ more last any.
          pairs_do rest good.1 span of_span more last

    -- INLINE EXPRESSIONS

    -- a short text, at a good span
    abbrev Short : Text × Span → Type 0
    Short written = (length written.0 ≤ 4096) × Good written.1

    write_does : (format : Formatter) (span : Span) → Good span → (v : Value) (used : Charge) → Does Short (write setting source visible format span v used)
    write_does format span good v used = by (format v)
      where
        fitting : (text : Text) (x : Bool) → leb (length text) 4096 ≡ x → Does Short (from (cond x (gives (text, span)) (fails (fault_at TextTooLong span 0))) used)
        fitting text true e = (leb-true (length text) 4096 e, good)
        fitting text false e = (span, refl, good, refl)

        by : (o : Or ℕ Text) → Does Short (from (short_enough setting source visible span o) used)
        by (fails reason) = (span, refl, good, refl)
        by (gives text) = fitting text (leb (length text) 4096) refl

    value_does : (b : BaseExpr) → BaseGood Good b → (used : Charge) → Does Short (emit_value setting source visible b used)
    value_does b good used =
        then_does Any Short (read_base setting source visible b used) _ (base_does b good used) λ v held any.
        write_does setting.hosts.default_formatter (base_value_span b) (base_value_good Good joins b good) v held

    one_does : (format : Formatter) (name : Span) → Good name → (args : List Argument) (used : Charge) →
        Does Short (write_one setting source visible format name args used)
    one_does format name good [] used = (name, refl, good, refl)
    one_does format name good (a ∷ []) used = write_does format name good a.0 used
    one_does format name good (a ∷ b ∷ more) used = (name, refl, good, refl)

    call_does : (name whole : Span) (args : List Argument) → Good name → Good whole → Arguments args → (used : Charge) →
        Does Short (emit_call setting source visible name whole args used)
    call_does name whole args of_name of_whole good used = by (setting.hosts.callables (text_at source name))
      where
        by : (c : Callable) → Does Short (emit_call (calling c) source visible name whole args used)
        by nothing = (name, refl, of_name, refl)
        by (formatter f) = one_does f name of_name args used
        by (function f) =
            then_does Any Short (ask_function setting.supply f name whole args used) _ (ask_does f name whole args of_name of_whole good used) λ v held any.
            write_does setting.hosts.default_formatter whole of_whole v held

    mutual
      unfolding read_expr emit

      emit_does : (e : Expr) → ExprGood Good e → (used : Charge) → Does Short (emit setting source visible e used)
      emit_does (Base b) good used = emit_base_does b good used
      emit_does (Filter name whole receiver args) good used =
          then_does Any Short (read_expr setting source visible receiver used) _ (expr_does receiver good.2 used) λ v held any.
          then_does Arguments Short (read_args setting source visible args held) _ (args_do args good.3 held) λ vs last all.
          call_does name whole ((v, value_span receiver) ∷ vs) good.0 good.1 (value_good Good joins receiver good.2, all) last

      emit_base_does : (b : BaseExpr) → BaseGood Good b → (used : Charge) → Does Short (emit_base setting source visible b used)
      emit_base_does (Variable v) good used = value_does (Variable v) good used
      emit_base_does (Literal span v) good used = value_does (Literal span v) good used
      emit_base_does (ListOf span items) good used = value_does (ListOf span items) good used
      emit_base_does (MapOf span pairs) good used = value_does (MapOf span pairs) good used
      emit_base_does (Paren span e) good used = emit_does e good.1 used
      emit_base_does (Call name whole args) good used =
          then_does Arguments Short (read_args setting source visible args used) _ (args_do args good.2 used) λ vs held all.
          call_does name whole vs good.0 good.1 all held

-- STATEMENTS

-- the names of templates that are read, and the good spans of each
module _ (Read : Text → Type 0) (Good : Text → Span → Type 0) (joins : (name : Text) (a b : Span) → Good name a → Good name b → Good name (combine a b)) where
  pub record Somewhere (f : Fault) : Type 0 where
    pub name : Text
    pub is_read : Read name
    pub in_it : f.template ≡ some name
    pub spanned : Spanned (Good name) (joins name) f

  abbrev pub EndsWell : End → Type 0
  EndsWell finished = Unit {0}
  EndsWell (faulted f) = (f ≡ fault TooManyOpen 0) ⊎ Somewhere f

  -- raw, or short and at a good span
  pub data Told (piece : Piece) : Type 0 where
    as_raw : piece.span ≡ none → Told piece
    as_short : (span : Span) → piece.span ≡ some span → Good piece.template span → length piece.bytes ≤ 4096 → Told piece

  abbrev pub Offers : List Event → Type 0
  Offers [] = Unit {0}
  Offers (offers piece ∷ events) = (Read piece.template × Told piece) × Offers events

  abbrev pub Fine : Reading → Type 0
  Fine r = Offers r.events × EndsWell r.end

  join : (a b : List Event) → Offers a → Offers b → Offers (a ++ b)
  join [] b h k = k
  join (offers piece ∷ a) b h k = (h.0, join a b h.1 k)

  then_fine : (a : List Event) (x : End) (s : Reading) → Offers a → EndsWell x → Fine s → Fine (record { events = a; end = x } followed_by s)
  then_fine a finished s h e k = (join a s.events h k.0, k.1)
  then_fine a (faulted f) s h e k = (h, e)

  all_fine : {A : Type 0} (one : A → Reading) (all : List A) → ((a : A) → Fine (one a)) → Fine (in_order (each one all))
  all_fine one [] h = (tt, tt)
  all_fine one (a ∷ all) h = then_fine (one a).events (one a).end (in_order (each one all)) (h a).0 (h a).1 (all_fine one all h)

  choose : (x : Bool) (r s : Reading) → Fine r → Fine s → Fine (elim x [ true ↦ r | false ↦ s ])
  choose true r s h k = h
  choose false r s h k = k

  module _ (setting : Setting)
      (held_ones : (name : Text) (template : Template) → find setting.templates name ≡ some template → Read name × ScopeGood (Good name) template.tree) where
    abbrev FineIncluded : Included → Type 0
    FineIncluded included =
        (name : Text) (template : Template) → find setting.templates name ≡ some template → (visible : List Visible) (used : Charge) →
        Fine (included name template visible used)

    module _ (name : Text) (is_read : Read name) (source : List ℕ) (included : Included) (fine : FineIncluded included) where
      abbrev had : {A : Type 0} → Or Fault A → (A → Reading) → Reading
      had = once_had setting name source included

      had_fine : {A : Type 0} (r : Or Fault A) (next : A → Reading) → Fails (Good name) (joins name) r → ((a : A) → Fine (next a)) → Fine (had r next)
      had_fine (fails f) next ok h = (tt, inr (record { name = name; is_read = is_read; in_it = refl; spanned = ok }))
      had_fine (gives a) next ok h = h a

      does_fine : {A : Type 0} (P : A → Type 0) (r : Or Fault (A × Charge)) (next : A × Charge → Reading) → Does (Good name) (joins name) P r →
          ((a : A) (held : Charge) → P a → Fine (next (a, held))) → Fine (had r next)
      does_fine P (fails f) next ok h = (tt, inr (record { name = name; is_read = is_read; in_it = refl; spanned = ok }))
      does_fine P (gives (a, held)) next ok h = h a held ok

      having_fine : (e : Expr) → ExprGood (Good name) e → (visible : List Visible) (used : Charge) (next : Value × Charge → Reading) →
          ((v : Value) (held : Charge) → Fine (next (v, held))) → Fine (having setting name source included e visible used next)
      having_fine e good visible used next h =
          does_fine (λ v. Unit {0}) _ next (expr_does (Good name) (joins name) setting source visible e good used) λ v held any.
          h v held

      include_fine : (s : String) → Good name s.span → (visible : List Visible) (used : Charge) →
          Fine (had (template_named setting name source included s) λ template. included s.text template visible used)
      include_fine s good visible used = by (find setting.templates s.text) refl
        where
          by : (o : Option Template) → find setting.templates s.text ≡ o →
              Fine (had (elim o [ some template ↦ gives template | none ↦ fails (fault_at UnknownTemplate s.span 0) ])
              λ template. included s.text template visible used)
          by (some template) e = fine s.text template e visible used
          by none e = (tt, inr (record { name = name; is_read = is_read; in_it = refl; spanned = (s.span, refl, good, refl) }))

      turns_fail : (vars : LoopVars) → VarsGood (Good name) vars → (v : Value) (span : Span) → Good name span → Fails (Good name) (joins name) (turns source vars v span)
      turns_fail (Item n) good none_value span of_span = (span, refl, of_span, refl)
      turns_fail (Item n) good (boolean b) span of_span = (span, refl, of_span, refl)
      turns_fail (Item n) good (integer i) span of_span = (span, refl, of_span, refl)
      turns_fail (Item n) good (float bits) span of_span = (span, refl, of_span, refl)
      turns_fail (Item n) good (string s) span of_span = (span, refl, of_span, refl)
      turns_fail (Item n) good (list xs) span of_span = tt
      turns_fail (Item n) good (map es) span of_span = (n, refl, good, refl)
      turns_fail (KeyValue k w both) good none_value span of_span = (span, refl, of_span, refl)
      turns_fail (KeyValue k w both) good (boolean b) span of_span = (span, refl, of_span, refl)
      turns_fail (KeyValue k w both) good (integer i) span of_span = (span, refl, of_span, refl)
      turns_fail (KeyValue k w both) good (float bits) span of_span = (span, refl, of_span, refl)
      turns_fail (KeyValue k w both) good (string s) span of_span = (span, refl, of_span, refl)
      turns_fail (KeyValue k w both) good (list xs) span of_span = (both, refl, good, refl)
      turns_fail (KeyValue k w both) good (map es) span of_span = tt

      mutual
        unfolding read_stmt

        stmt_fine : (stmt : Stmt) → StmtGood (Good name) stmt → (visible : List Visible) (used : Charge) →
            Fine (read_stmt setting name source included stmt visible used)
        stmt_fine (Raw span) good visible used = (((is_read, as_raw refl), tt), tt)
        stmt_fine (Inline e) good visible used =
            does_fine (Short (Good name) (joins name) setting source visible) _ _ (emit_does (Good name) (joins name) setting source visible e good used)
            λ written held short. (((is_read, as_short written.1 refl short.1 short.0), tt), tt)
        stmt_fine (Include other) good visible used = include_fine other good visible used
        stmt_fine (IncludeWith other e) good visible used =
            having_fine e good.1 visible used _ λ v held. include_fine other good.0 (parts_of v ∷ boundary ∷ visible) held
        stmt_fine (If negated e body) good visible used =
            having_fine e good.0 visible used _ λ v held.
            choose (passes setting name source included negated v) _ _ (scope_fine body good.1 visible used) (tt, tt)
        stmt_fine (IfElse negated e body otherwise) good visible used =
            having_fine e good.0 visible used _ λ v held.
            choose (passes setting name source included negated v) _ _ (scope_fine body good.1 visible used) (scope_fine otherwise good.2 visible used)
        stmt_fine (For vars e body) good visible used =
            having_fine e good.1 visible used _ λ v held.
            had_fine (turns source vars v (expr_span e)) _ (turns_fail vars good.0 v (expr_span e) (expr_good (Good name) (joins name) e good.1)) λ all.
            all_fine _ all λ turn. scope_fine body good.2 (looping turn ∷ visible) held
        stmt_fine (With alias e body) good visible used =
            having_fine e good.0 visible used _ λ v held. scope_fine body good.1 (named (text_at source alias) v ∷ visible) held

        pub scope_fine : (scope : Scope) → ScopeGood (Good name) scope → (visible : List Visible) (used : Charge) →
            Fine (read_scope setting name source included scope visible used)
        scope_fine done good visible used = (tt, tt)
        scope_fine (stmt then rest) good visible used =
            then_fine _ _ _ (stmt_fine stmt good.0 visible used).0 (stmt_fine stmt good.0 visible used).1 (scope_fine rest good.1 visible used)

    pub opening_fine : (more : ℕ) → FineIncluded (opening setting more)
    opening_fine zero name template held visible used = (tt, inl refl)
    opening_fine (suc more) name template held visible used =
        subst Fine (sym (templates_are_read setting more name template visible used))
        (scope_fine name (held_ones name template held).0 template.source (opening setting more) (opening_fine more) template.tree
        (held_ones name template held).1 visible used)

-- ANY TREE

place_fine : (at : Place) (scope : Scope) → Fine (IsRead at) (λ name span. Unit {0}) (λ name a b g h. tt) (reads at scope)
place_fine at scope =
    scope_fine (IsRead at) (λ name span. Unit {0}) (λ name a b g h. tt) at.setting held_ones at.name (inl refl) at.source (opening at.setting at.more)
    (opening_fine (IsRead at) (λ name span. Unit {0}) (λ name a b g h. tt) at.setting held_ones at.more) scope
    (every_scope (λ span. Unit {0}) (λ span. tt) scope) at.visible at.used
  where
    held_ones : (name : Text) (template : Template) → find at.setting.templates name ≡ some template →
        IsRead at name × ScopeGood (λ span. Unit {0}) template.tree
    held_ones name template held = (inr (template, held), every_scope (λ span. Unit {0}) (λ span. tt) template.tree)

pub faults_say_where : FaultsSayWhere
faults_say_where at scope f e = by (subst (EndsWell (IsRead at) (λ name span. Unit {0}) (λ name a b g h. tt)) e (place_fine at scope).1)
  where
    by : (f ≡ fault TooManyOpen 0) ⊎ Somewhere (IsRead at) (λ name span. Unit {0}) (λ name a b g h. tt) f → (f ≡ fault TooManyOpen 0) ⊎ AtASpan at f
    by (inl e) = inl e
    by (inr w) = inr (record { name = w.name; is_read = w.is_read; in_it = w.in_it; span = w.spanned.0; there = w.spanned.1; cause = w.spanned.3 })

pub pieces_say_where : PiecesSayWhere
pieces_say_where at scope = pieces (reads at scope).events (place_fine at scope).0
  where
    one : (piece : Piece) → Told (IsRead at) (λ name span. Unit {0}) (λ name a b g h. tt) piece → RawOrShort piece
    one piece (as_raw e) = raw e
    one piece (as_short span e good fits) = short span e fits

    pieces : (events : List Event) → Offers (IsRead at) (λ name span. Unit {0}) (λ name a b g h. tt) events → Pieces at events
    pieces [] h = tt
    pieces (offers piece ∷ events) h = ((h.0.0, one piece h.0.1), pieces events h.1)
