-- What is read holds well-formed text only, where the hosts answer with such.
use Rattle.std.proofs.Common.{◌≡◌, ◌/◌, drop, ℕ, zero, suc, ◌-◌, Bool, true, false, cond, ◌&&◌, leb, ltb, List, [], ◌∷◌, ◌++◌, length, codes, map as each, sym, refl, subst, arith, leb-true}
use Rattle.std.proofs.lemmas.Bool.{and_parts}
use Rattle.std.proofs.lemmas.Str.{IsUtf8-append, IsUtf8-between}
use mathlib.Core.Option.{Option, none, some}
use Rattle.std.specs.List.{All}
use Rattle.std.specs.Str.{bytes_eq as same_text}
use Rattle.meaning.specs.Or.{Or, fails, gives}
use Rattle.meaning.specs.Step.{from, continue}
use Rattle.meaning.specs.Value.{Value, none as none_value, boolean, integer, float, string, list, map, Items, no_items, item, Entries, no_entries, entry, Text}
use Rattle.meaning.specs.declared.tree.Span.{Span}
use Rattle.meaning.specs.declared.tree.Access.{Access}
use Rattle.meaning.specs.declared.tree.Access.TheVariants.{Index, Key}
use Rattle.meaning.specs.declared.tree.AccessOp.{AccessOp}
use Rattle.meaning.specs.declared.tree.AccessOp.TheVariants.{Direct, Optional}
use Rattle.meaning.specs.declared.tree.Member.{Member}
use Rattle.meaning.specs.Tree.{String, Var, Expr, Base, Filter, BaseExpr, Variable, Literal, ListOf, MapOf, Paren, Call, Args, no_args, arg, Pairs, no_pairs, pair, LoopVars, Item, KeyValue, Stmt, Raw, Inline, Include, IncludeWith, If, IfElse, For, With, Scope, done, ◌then◌}
use Rattle.meaning.specs.Spans.{text_at, access_span, var_span, value_span, base_value_span, expr_span}
use Rattle.meaning.specs.declared.fault.Cause.{Cause}
use Rattle.meaning.specs.declared.fault.Cause.TheVariants.{StoreFull, TextTooLong, UnknownTemplate}
use Rattle.meaning.specs.Fault.{Fault, fault_at}
use Rattle.meaning.specs.Parts.{nth, value_of, append, insert, count_items, count_entries}
use Rattle.meaning.specs.Bytes.{precedes}
use Rattle.meaning.specs.Charge.{Charge, one_cell, cell_and_text, cost, within, ◌⊕◌, Make, charge}
use Rattle.meaning.specs.Hosts.{Callable, nothing, formatter, function, Function, Formatter, Refusal, Hosts, Taken, took, stopped}
use Rattle.meaning.specs.Walk.{Ask, Wanted, index, key, Walked, found, missed, failed, found_or, absent, part_at, part, walk}
use Rattle.meaning.specs.Scopes.{Visible, parts_of, named, looping, asking, boundary, Current, one_item, one_entry, Turn, Had, stored, made, ask, had_or_fault, walked, no_further, loop_member, loop_variable, loop_value, in_item, in_current, in_turn, answered, look_up}
use Rattle.meaning.specs.Reading.{Event, offers, End, finished, faulted, Reading, ◌followed_by◌, Template, find, Setting, text}
use Rattle.meaning.specs.Expressions.{Argument, answer_at, ask_function, apply, read_expr, read_base, read_args, read_items, read_pairs, short_enough, write, write_one, emit_value, emit_call, emit, emit_base}
use Rattle.meaning.specs.Statements.{Included, in_order, item_turns, entry_turns, turns, once_had, template_named, passes, having, read_stmt, read_scope}
use Rattle.meaning.specs.Sinks.{page}
use Rattle.meaning.specs.Formatters.{lat, lon, len, size, chart_set}
use Rattle.meaning.specs.Sources.{answer, walk_of, pots, pot_log}
use Rattle.meaning.proofs.Answers.{never_gives, same_answer}
use Rattle.meaning.specs.Offering.{stopped_at, offer_all}
use Rattle.packing.specs.Rfc3629.{well_formed, completes, others_of, between_characters}
use Rattle.packing.specs.Texts.{WellFormedValue, WellFormedItems, WellFormedEntries, WritesText, NamesText}
use Rattle.packing.specs.Limits.{inside, Inside, ExprFits, BaseFits, ArgsFit, PairsFit, StmtFits, ScopeFits, Limits}
use Rattle.packing.proofs.Grammar.{grammar_is_std, places_are_std}
use Rattle.packing.proofs.Texts.{value_is_text, formatters_write_text}
use Rattle.model.specs.Model.{Model, rendering, rendered as after_rendering}
use Rattle.model.specs.Laws.{Sound}
use Rattle.laws.specs.Places.{opening}
use Rattle.laws.specs.Text.{EachIsText, IsText as ReadsText, AnswersText, HostsAnswerText, SourceAnswersText, RenderingsAreText, PagesHoldText, ChartHostsAnswerText}
use Rattle.laws.proofs.Boundary.{templates_are_read}
use Rattle.laws.proofs.Placed.{Limited, held_limited}
use Rattle.laws.proofs.Renderings.{setting_of, read_of, rendered, gave_reading}

-- TEXTS

abbrev pub IsText : Text → Type 0
IsText t = well_formed t ≡ true

no_text : IsText []
unfolding well_formed completes
no_text = refl

two_texts : (a b : Text) → IsText a → IsText b → IsText (a ++ b)
two_texts a b h k = (grammar_is_std (a ++ b)).1 (IsUtf8-append a b ((grammar_is_std a).0 h) ((grammar_is_std b).0 k))

-- a span of a text lies between characters
span_text : (source : Text) (span : Span) → IsText source → Inside source span → IsText (text_at source span)
unfolding inside
span_text source span h k =
    let ordered : (leb span.start span.end ≡ true) × ((between_characters source span.start && between_characters source span.end) ≡ true) =
    and_parts (leb span.start span.end) (between_characters source span.start && between_characters source span.end) k in
    let ends : (between_characters source span.start ≡ true) × (between_characters source span.end ≡ true) =
    and_parts (between_characters source span.start) (between_characters source span.end) ordered.1 in
    (grammar_is_std (text_at source span)).1
    (IsUtf8-between source span.start span.end ((grammar_is_std source).0 h) (leb-true span.start span.end ordered.0)
    ((places_are_std source span.start).0 ends.0) ((places_are_std source span.end).0 ends.1))

-- VALUES

-- what an answer gives, if it gives something, has a property
abbrev pub Gives : {A : Type 0} → (A → Type 0) → Or Fault A → Type 0
Gives P (fails f) = Unit {0}
Gives P (gives a) = P a

-- the same, without how much is in use
abbrev pub Does : {A : Type 0} → (A → Type 0) → Or Fault (A × Charge) → Type 0
Does P (fails f) = Unit {0}
Does P (gives (a, held)) = P a

then_does : {A B : Type 0} (P : A → Type 0) (Q : B → Type 0) (r : Or Fault (A × Charge)) (next : A → Make B) →
    Does P r → ((a : A) (held : Charge) → P a → Does Q (next a held)) → Does Q (continue r next)
then_does P Q (fails f) next ok h = tt
then_does P Q (gives (a, held)) next ok h = h a held ok

from_does : {A : Type 0} (P : A → Type 0) (o : Or Fault A) (used : Charge) → Gives P o → Does P (from o used)
from_does P (fails f) used ok = tt
from_does P (gives a) used ok = ok

charge_does : {A : Type 0} (P : A → Type 0) (supply : Charge) (span : Span) (more : Charge) (a : A) (used : Charge) → P a →
    Does P (charge supply span more a used)
charge_does {A} P supply span more a used good = by (within supply (used ⊕ more))
  where
    by : (x : Bool) → Does {A = A} P (cond x (gives (a, used ⊕ more)) (fails (fault_at StoreFull span 0)))
    by true = good
    by false = tt

append_text : (vs : Items) (v : Value) → WellFormedItems vs → WellFormedValue v → WellFormedItems (append vs v)
append_text no_items v all good = (good, tt)
append_text (item w vs) v all good = (all.0, append_text vs v all.1 good)

insert_text : (k : Text) (v : Value) (es : Entries) → IsText k → WellFormedValue v → WellFormedEntries es → WellFormedEntries (insert k v es)
insert_text k v no_entries of_key good all = (of_key, good, tt)
insert_text k v (entry j w es) of_key good all = by (same_text k j) (precedes k j) (insert_text k v es of_key good all.2)
  where
    by : (x y : Bool) → WellFormedEntries (insert k v es) → WellFormedEntries (cond x (entry k v es) (cond y (entry k v (entry j w es)) (entry j w (insert k v es))))
    by true y deeper = (of_key, good, all.2)
    by false true deeper = (of_key, good, all)
    by false false deeper = (all.0, all.1, deeper)

-- WALKS

abbrev WalkText : {X : Type 0} → Walked X → Type 0
WalkText (found v) = WellFormedValue v
WalkText missed = Unit {0}
WalkText (failed x cause detail) = Unit {0}

abbrev SomeText : Option Value → Type 0
SomeText none = Unit {0}
SomeText (some v) = WellFormedValue v

nth_text : (vs : Items) (n : ℕ) → WellFormedItems vs → SomeText (nth vs n)
nth_text no_items n all = tt
nth_text (item v vs) zero all = all.0
nth_text (item v vs) (suc n) all = nth_text vs n all.1

value_of_text : (es : Entries) (k : Text) → WellFormedEntries es → SomeText (value_of es k)
value_of_text no_entries k all = tt
value_of_text (entry j v es) k all = by (same_text k j) (value_of_text es k all.2)
  where
    by : (x : Bool) → SomeText (value_of es k) → SomeText (cond x (some v) (value_of es k))
    by true deeper = all.1
    by false deeper = deeper

there_or_not : {X : Type 0} (o : Option Value) (op : AccessOp) (x : X) (c : Cause) (d : ℕ) → SomeText o → WalkText (found_or o (absent op (failed x c d)))
there_or_not (some v) op x c d good = good
there_or_not none Direct x c d good = tt
there_or_not none Optional x c d good = tt

part_at_text : {X : Type 0} (x : X) (op : AccessOp) (v : Value) (wanted : Wanted) → WellFormedValue v → WalkText (part_at x op v wanted)
part_at_text x op none_value (index n) good = tt
part_at_text x op (boolean b) (index n) good = tt
part_at_text x op (integer i) (index n) good = tt
part_at_text x op (float bits) (index n) good = tt
part_at_text x op (string s) (index n) good = tt
part_at_text x op (list xs) (index n) good = there_or_not (nth xs n) op x _ _ (nth_text xs n good)
part_at_text x op (map es) (index n) good = tt
part_at_text x op none_value (key k) good = tt
part_at_text x op (boolean b) (key k) good = tt
part_at_text x op (integer i) (key k) good = tt
part_at_text x op (float bits) (key k) good = tt
part_at_text x op (string s) (key k) good = tt
part_at_text x op (list xs) (key k) good = tt
part_at_text x op (map es) (key k) good = there_or_not (value_of es k) op x _ _ (value_of_text es k good)

module _ {X : Type 0} (asked : X → Ask) where
  part_text : (v : Value) (x : X) → WellFormedValue v → WalkText (part asked v x)
  part_text v x good = part_at_text x (asked x).op v (asked x).wanted good

  walk_text : (v : Value) (path : List X) → WellFormedValue v → WalkText (walk asked v path)
  walk_text v [] good = good
  walk_text v (x ∷ path) good = by (part asked v x) (part_text v x good) (λ w. walk_text w path)
    where
      by : (result : Walked X) → WalkText result → ((w : Value) → WellFormedValue w → WalkText (walk asked w path)) →
          WalkText (elim result [ found w ↦ walk asked w path | missed ↦ missed | failed y c d ↦ failed y c d ])
      by (found w) ok h = h w ok
      by missed ok h = tt
      by (failed y c d) ok h = tt

module _ (source : List ℕ) where
  -- VARIABLES

  stored_text : (result : Walked Member) → WalkText result → Does WellFormedValue (had_or_fault source result stored)
  stored_text (found v) ok = ok
  stored_text missed ok = tt
  stored_text (failed m c d) ok = tt

  made_text : (result : Walked Member) → WalkText result → Does WellFormedValue (had_or_fault source result made)
  made_text (found v) ok = ok
  made_text missed ok = tt
  made_text (failed m c d) ok = tt

  walked_text : (v : Value) (ms : List Member) → WellFormedValue v → Does WellFormedValue (walked source v ms)
  walked_text v ms good = stored_text (walk (ask source) v ms) (walk_text (ask source) v ms good)

  further_text : (had : Or Fault Had) (ms : List Member) → Does WellFormedValue had → Does WellFormedValue (no_further source had ms)
  further_text had [] ok = ok
  further_text (fails f) (m ∷ ms) ok = tt
  further_text (gives (v, c)) (m ∷ ms) ok = tt

  loop_value_text : (turn : Turn) → WellFormedValue (loop_value turn)
  unfolding well_formed completes others_of
  loop_value_text turn = (refl, tt, (refl, tt, (refl, tt, tt)))

  loop_text : (loop : Value) (ms : List Member) → WellFormedValue loop → Does WellFormedValue (loop_variable source loop ms)
  loop_text loop [] good = good
  loop_text loop (m ∷ ms) good = further_text (loop_member source loop m m.access) ms (by m.access)
    where
      by : (access : Access) → Does WellFormedValue (loop_member source loop m access)
      by (Index n span) = tt
      by (Key span) = made_text (part (ask source) loop m) (part_text (ask source) loop m good)

  abbrev MayText : Option (Or Fault Had) → Type 0
  MayText (some had) = Does WellFormedValue had
  MayText none = Unit {0}

  item_text : (v : Value) (ms : List Member) → WellFormedValue v → MayText (in_item source v ms)
  item_text v ms good = by (walk (ask source) v ms) (walk_text (ask source) v ms good)
    where
      by : (result : Walked Member) → WalkText result →
          MayText (elim result [ found w ↦ some (gives (stored w)) | missed ↦ none | failed m c d ↦ some (fails (fault_at c m.span d)) ])
      by (found w) ok = ok
      by missed ok = tt
      by (failed m c d) ok = tt

  either : (x : Bool) (o p : Option (Or Fault Had)) → MayText o → MayText p → MayText (cond x o p)
  either true o p h k = h
  either false o p h k = k

abbrev CurrentText : Current → Type 0
CurrentText (one_item name v) = WellFormedValue v
CurrentText (one_entry key_name value_name k v) = IsText k × WellFormedValue v

abbrev TurnText : Turn → Type 0
TurnText turn = CurrentText turn.current

abbrev LayerText : Visible → Type 0
LayerText (parts_of v) = WellFormedValue v
LayerText (named name v) = WellFormedValue v
LayerText (looping turn) = TurnText turn
LayerText (asking asked) = SourceAnswersText asked
LayerText boundary = Unit {0}

abbrev VisibleText : List Visible → Type 0
VisibleText [] = Unit {0}
VisibleText (layer ∷ outer) = LayerText layer × VisibleText outer

module _ (source : List ℕ) where
  current_text : (current : Current) (name : Text) (ms : List Member) → CurrentText current → MayText source (in_current source current name ms)
  current_text (one_item item_name v) name ms good = either source (same_text name item_name) _ _ (item_text source v ms good) tt
  current_text (one_entry key_name value_name k v) name ms good =
      either source (same_text name key_name) (some (no_further source (gives (string k, one_cell)) ms)) _
      (further_text source (gives (string k, one_cell)) ms good.0)
      (either source (same_text name value_name) _ _ (item_text source v ms good.1) tt)

  turn_text : (turn : Turn) (access : Access) (ms : List Member) → TurnText turn → MayText source (in_turn source turn access ms)
  turn_text turn (Index n span) ms good = tt
  turn_text turn (Key span) ms good =
      either source (same_text (text_at source span) (codes "loop")) (some (loop_variable source (loop_value turn) ms)) _
      (loop_text source (loop_value turn) ms (loop_value_text source turn))
      (current_text turn.current (text_at source span) ms good)

  look_up_text : (visible : List Visible) (v : Var) → VisibleText visible → Does WellFormedValue (look_up source visible v)
  unfolding look_up
  look_up_text [] v good = tt
  look_up_text (parts_of w ∷ outer) v good =
      by (part (ask source) w v.first) (part_text (ask source) w v.first good.0) (look_up_text outer v good.1)
    where
      by : (result : Walked Member) → WalkText result → Does WellFormedValue (look_up source outer v) →
          Does {A = Value} WellFormedValue (elim result [ found p ↦ walked source p v.rest | missed ↦ gives (stored none_value) | failed m c d ↦ look_up source outer v ])
      by (found p) ok h = walked_text source p v.rest ok
      by missed ok h = tt
      by (failed m c d) ok h = h
  look_up_text (named name w ∷ outer) v good = by (same_text name (text_at source (access_span v.first.access))) (look_up_text outer v good.1)
    where
      by : (x : Bool) → Does WellFormedValue (look_up source outer v) →
          Does {A = Value} WellFormedValue (elim x [ true ↦ walked source w v.rest | false ↦ look_up source outer v ])
      by true h = walked_text source w v.rest good.0
      by false h = h
  look_up_text (looping t ∷ outer) v good =
      by (in_turn source t v.first.access v.rest) (turn_text t v.first.access v.rest good.0) (look_up_text outer v good.1)
    where
      by : (o : Option (Or Fault Had)) → MayText source o → Does WellFormedValue (look_up source outer v) →
          Does {A = Value} WellFormedValue (elim o [ some had ↦ had | none ↦ look_up source outer v ])
      by (some had) ok h = ok
      by none ok h = h
  look_up_text (asking asked ∷ outer) v good =
      by (asked (each (ask source) (v.first ∷ v.rest))) (λ w. good.0 (each (ask source) (v.first ∷ v.rest)) w)
    where
      by : (o : Or ℕ Value) → ((w : Value) → o ≡ gives w → WellFormedValue w) → Does WellFormedValue (answered source (var_span v) o)
      by (fails reason) h = tt
      by (gives w) h = h w refl
  look_up_text (boundary ∷ outer) v good = tt

-- EXPRESSIONS

abbrev HadText : Had → Type 0
HadText had = WellFormedValue had.0

had_gives : (o : Or Fault Had) → Does WellFormedValue o → Gives HadText o
had_gives (fails f) ok = tt
had_gives (gives (v, c)) ok = ok

abbrev ArgumentsText : List Argument → Type 0
ArgumentsText [] = Unit {0}
ArgumentsText (a ∷ args) = WellFormedValue a.0 × ArgumentsText args

all_text : (args : List Argument) → ArgumentsText args → All WellFormedValue (each (λ a. a.0) args)
all_text [] good k d h = absurd (omega arith)
all_text (a ∷ args) good zero d h = good.0
all_text (a ∷ args) good (suc k) d h = all_text args good.1 k d (omega arith)

module _ (setting : Setting) (hosts_good : HostsAnswerText setting.hosts) (source : List ℕ) (visible : List Visible) (visible_good : VisibleText visible) where
  ask_does : (f : Function) → AnswersText (function f) → (call whole : Span) (args : List Argument) → ArgumentsText args → (used : Charge) →
      Does WellFormedValue (ask_function setting.supply f call whole args used)
  ask_does f answers call whole args good used =
      then_does WellFormedValue WellFormedValue (from (answer_at call args (f (each (λ a. a.0) args))) used) _
      (from_does WellFormedValue _ used (by (f (each (λ a. a.0) args)) (λ v. answers (each (λ a. a.0) args) v (all_text args good))))
      λ v held ok. charge_does WellFormedValue setting.supply whole (cost v) v held ok
    where
      by : (o : Or Refusal Value) → ((v : Value) → o ≡ gives v → WellFormedValue v) → Gives WellFormedValue (answer_at call args o)
      by (gives v) h = h v refl
      by (fails r) h = tt

  -- the setting in which every name stands for the same
  abbrev calling : Callable → Setting
  calling c =
      record {
        supply = setting.supply;
        templates = setting.templates;
        hosts = record { callables = λ name. c; default_formatter = setting.hosts.default_formatter };
      }

  apply_does : (name whole : Span) (args : List Argument) → ArgumentsText args → (used : Charge) →
      Does WellFormedValue (apply setting source visible name whole args used)
  apply_does name whole args good used = by (setting.hosts.callables (text_at source name)) (hosts_good.callables (text_at source name))
    where
      by : (c : Callable) → AnswersText c → Does WellFormedValue (apply (calling c) source visible name whole args used)
      by nothing answers = tt
      by (formatter f) answers = tt
      by (function f) answers = ask_does f answers whole whole args good used

  mutual
    unfolding read_expr

    expr_does : (e : Expr) → ExprFits source e → (used : Charge) → Does WellFormedValue (read_expr setting source visible e used)
    expr_does (Base b) fit used = base_does b fit used
    expr_does (Filter name whole receiver args) fit used =
        then_does WellFormedValue WellFormedValue (read_expr setting source visible receiver used) _ (expr_does receiver fit.3 used) λ v held good.
        then_does ArgumentsText WellFormedValue (read_args setting source visible args held) _ (args_do args fit.4 held) λ vs last all.
        apply_does name whole ((v, value_span receiver) ∷ vs) (good, all) last

    base_does : (b : BaseExpr) → BaseFits source b → (used : Charge) → Does WellFormedValue (read_base setting source visible b used)
    base_does (Variable v) fit used =
        then_does HadText WellFormedValue (from (look_up source visible v) used) _
        (from_does HadText (look_up source visible v) used (had_gives (look_up source visible v) (look_up_text source visible v visible_good))) λ had held good.
        charge_does WellFormedValue setting.supply (var_span v) had.1 had.0 held good
    base_does (Literal span v) fit used = charge_does WellFormedValue setting.supply span (cost v) v used (value_is_text v fit.2)
    base_does (ListOf span items) fit used =
        then_does WellFormedItems WellFormedValue (charge setting.supply span one_cell no_items used) _
        (charge_does WellFormedItems setting.supply span one_cell no_items used tt) λ empty held good.
        then_does WellFormedItems WellFormedValue (read_items setting source visible items span empty held) _ (items_do items fit.2 span empty good held)
        λ full last all. all
    base_does (MapOf span pairs) fit used =
        then_does WellFormedEntries WellFormedValue (charge setting.supply span one_cell no_entries used) _
        (charge_does WellFormedEntries setting.supply span one_cell no_entries used tt) λ empty held good.
        then_does WellFormedEntries WellFormedValue (read_pairs setting source visible pairs span empty held) _ (pairs_do pairs fit.2 span empty good held)
        λ full last all. all
    base_does (Paren span e) fit used = expr_does e fit.1 used
    base_does (Call name whole args) fit used =
        then_does ArgumentsText WellFormedValue (read_args setting source visible args used) _ (args_do args fit.3 used) λ vs held all.
        apply_does name whole vs all held

    args_do : (args : Args) → ArgsFit source args → (used : Charge) → Does ArgumentsText (read_args setting source visible args used)
    args_do no_args fit used = tt
    args_do (arg b rest) fit used =
        then_does WellFormedValue ArgumentsText (read_base setting source visible b used) _ (base_does b fit.0 used) λ v held good.
        then_does ArgumentsText ArgumentsText (read_args setting source visible rest held) _ (args_do rest fit.1 held) λ vs last all.
        (good, all)

    items_do : (args : Args) → ArgsFit source args → (span : Span) (so_far : Items) → WellFormedItems so_far → (used : Charge) →
        Does WellFormedItems (read_items setting source visible args span so_far used)
    items_do no_args fit span so_far good used = good
    items_do (arg b rest) fit span so_far good used =
        then_does WellFormedValue WellFormedItems (read_base setting source visible b used) _ (base_does b fit.0 used) λ v held ok.
        then_does WellFormedItems WellFormedItems (charge setting.supply span one_cell (append so_far v) held) _
        (charge_does WellFormedItems setting.supply span one_cell (append so_far v) held (append_text so_far v good ok)) λ more last all.
        items_do rest fit.1 span more all last

    pairs_do : (pairs : Pairs) → PairsFit source pairs → (span : Span) (so_far : Entries) → WellFormedEntries so_far → (used : Charge) →
        Does WellFormedEntries (read_pairs setting source visible pairs span so_far used)
    pairs_do no_pairs fit span so_far good used = good
    pairs_do (pair k b rest) fit span so_far good used =
        then_does WellFormedValue WellFormedEntries (read_base setting source visible b used) _ (base_does b fit.1 used) λ v held ok.
        then_does WellFormedEntries WellFormedEntries (charge setting.supply span (cell_and_text k.text) (insert k.text v so_far) held) _
        (charge_does WellFormedEntries setting.supply span (cell_and_text k.text) (insert k.text v so_far) held
        (insert_text k.text v so_far fit.0.fits.text ok good)) λ more last all.
        pairs_do rest fit.2 span more all last

  -- INLINE EXPRESSIONS

  abbrev WrittenText : Text × Span → Type 0
  WrittenText written = IsText written.0

  write_does : (format : Formatter) → WritesText format → (span : Span) (v : Value) → WellFormedValue v → (used : Charge) →
      Does WrittenText (write setting source visible format span v used)
  write_does format writes span v good used = by (format v) (λ t. writes v t good)
    where
      fitting : (t : Text) (x : Bool) → IsText t → Does WrittenText (from (cond x (gives (t, span)) (fails (fault_at TextTooLong span 0))) used)
      fitting t true ok = ok
      fitting t false ok = tt

      by : (o : Or ℕ Text) → ((t : Text) → o ≡ gives t → IsText t) → Does WrittenText (from (short_enough setting source visible span o) used)
      by (fails reason) h = tt
      by (gives t) h = fitting t (leb (length t) 4096) (h t refl)

  value_does : (b : BaseExpr) → BaseFits source b → (used : Charge) → Does WrittenText (emit_value setting source visible b used)
  value_does b fit used =
      then_does WellFormedValue WrittenText (read_base setting source visible b used) _ (base_does b fit used) λ v held good.
      write_does setting.hosts.default_formatter hosts_good.default_formatter (base_value_span b) v good held

  one_does : (format : Formatter) → WritesText format → (name : Span) (args : List Argument) → ArgumentsText args → (used : Charge) →
      Does WrittenText (write_one setting source visible format name args used)
  one_does format writes name [] good used = tt
  one_does format writes name (a ∷ []) good used = write_does format writes name a.0 good.0 used
  one_does format writes name (a ∷ b ∷ more) good used = tt

  call_does : (name whole : Span) (args : List Argument) → ArgumentsText args → (used : Charge) →
      Does WrittenText (emit_call setting source visible name whole args used)
  call_does name whole args good used = by (setting.hosts.callables (text_at source name)) (hosts_good.callables (text_at source name))
    where
      by : (c : Callable) → AnswersText c → Does WrittenText (emit_call (calling c) source visible name whole args used)
      by nothing answers = tt
      by (formatter f) answers = one_does f answers name args good used
      by (function f) answers =
          then_does WellFormedValue WrittenText (ask_function setting.supply f name whole args used) _ (ask_does f answers name whole args good used) λ v held ok.
          write_does setting.hosts.default_formatter hosts_good.default_formatter whole v ok held

  mutual
    unfolding read_expr emit

    emit_does : (e : Expr) → ExprFits source e → (used : Charge) → Does WrittenText (emit setting source visible e used)
    emit_does (Base b) fit used = emit_base_does b fit used
    emit_does (Filter name whole receiver args) fit used =
        then_does WellFormedValue WrittenText (read_expr setting source visible receiver used) _ (expr_does receiver fit.3 used) λ v held good.
        then_does ArgumentsText WrittenText (read_args setting source visible args held) _ (args_do args fit.4 held) λ vs last all.
        call_does name whole ((v, value_span receiver) ∷ vs) (good, all) last

    emit_base_does : (b : BaseExpr) → BaseFits source b → (used : Charge) → Does WrittenText (emit_base setting source visible b used)
    emit_base_does (Variable v) fit used = value_does (Variable v) fit used
    emit_base_does (Literal span v) fit used = value_does (Literal span v) fit used
    emit_base_does (ListOf span items) fit used = value_does (ListOf span items) fit used
    emit_base_does (MapOf span pairs) fit used = value_does (MapOf span pairs) fit used
    emit_base_does (Paren span e) fit used = emit_does e fit.1 used
    emit_base_does (Call name whole args) fit used =
        then_does ArgumentsText WrittenText (read_args setting source visible args used) _ (args_do args fit.3 used) λ vs held all.
        call_does name whole vs all held

-- STATEMENTS

abbrev Fine : Reading → Type 0
Fine r = EachIsText r.events

pieces_join : (a b : List Event) → EachIsText a → EachIsText b → EachIsText (a ++ b)
pieces_join [] b h k = k
pieces_join (offers piece ∷ a) b h k = (h.0, pieces_join a b h.1 k)

then_fine : (a : List Event) (x : End) (s : Reading) → EachIsText a → Fine s → Fine (record { events = a; end = x } followed_by s)
then_fine a finished s h k = pieces_join a s.events h k
then_fine a (faulted f) s h k = h

abbrev TurnsText : List Turn → Type 0
TurnsText [] = Unit {0}
TurnsText (turn ∷ more) = TurnText turn × TurnsText more

all_fine : (one : Turn → Reading) (all : List Turn) → TurnsText all → ((turn : Turn) → TurnText turn → Fine (one turn)) → Fine (in_order (each one all))
all_fine one [] good h = tt
all_fine one (turn ∷ all) good h = then_fine (one turn).events (one turn).end (in_order (each one all)) (h turn good.0) (all_fine one all good.1 h)

item_turns_text : (name : Text) (position length : ℕ) (vs : Items) → WellFormedItems vs → TurnsText (item_turns name position length vs)
item_turns_text name position length no_items all = tt
item_turns_text name position length (item v vs) all = (all.0, item_turns_text name (suc position) length vs all.1)

entry_turns_text : (key_name value_name : Text) (position length : ℕ) (es : Entries) → WellFormedEntries es →
    TurnsText (entry_turns key_name value_name position length es)
entry_turns_text key_name value_name position length no_entries all = tt
entry_turns_text key_name value_name position length (entry k v es) all =
    ((all.0, all.1), entry_turns_text key_name value_name (suc position) length es all.2)

turns_text : (source : List ℕ) (vars : LoopVars) (v : Value) (span : Span) → WellFormedValue v → Gives TurnsText (turns source vars v span)
turns_text source (Item n) none_value span good = tt
turns_text source (Item n) (boolean b) span good = tt
turns_text source (Item n) (integer i) span good = tt
turns_text source (Item n) (float bits) span good = tt
turns_text source (Item n) (string s) span good = tt
turns_text source (Item n) (list xs) span good = item_turns_text (text_at source n) 0 (count_items xs) xs good
turns_text source (Item n) (map es) span good = tt
turns_text source (KeyValue k w both) none_value span good = tt
turns_text source (KeyValue k w both) (boolean b) span good = tt
turns_text source (KeyValue k w both) (integer i) span good = tt
turns_text source (KeyValue k w both) (float bits) span good = tt
turns_text source (KeyValue k w both) (string s) span good = tt
turns_text source (KeyValue k w both) (list xs) span good = tt
turns_text source (KeyValue k w both) (map es) span good = entry_turns_text (text_at source k) (text_at source w) 0 (count_entries es) es good

choose : (x : Bool) (r s : Reading) → Fine r → Fine s → Fine (elim x [ true ↦ r | false ↦ s ])
choose true r s h k = h
choose false r s h k = k

module _ (setting : Setting) (hosts_good : HostsAnswerText setting.hosts)
    (held_ones : (name : Text) (template : Template) → find setting.templates name ≡ some template → Limits template.source template.tree) where
  abbrev FineIncluded : Included → Type 0
  FineIncluded included =
      (name : Text) (template : Template) → find setting.templates name ≡ some template → (visible : List Visible) → VisibleText visible → (used : Charge) →
      Fine (included name template visible used)

  module _ (name : Text) (source : List ℕ) (source_good : IsText source) (included : Included) (fine : FineIncluded included) where
    abbrev had : {A : Type 0} → Or Fault A → (A → Reading) → Reading
    had = once_had setting name source included

    had_fine : {A : Type 0} (P : A → Type 0) (r : Or Fault A) (next : A → Reading) → Gives P r → ((a : A) → P a → Fine (next a)) → Fine (had r next)
    had_fine P (fails f) next ok h = tt
    had_fine P (gives a) next ok h = h a ok

    does_fine : {A : Type 0} (P : A → Type 0) (r : Or Fault (A × Charge)) (next : A × Charge → Reading) → Does P r →
        ((a : A) (held : Charge) → P a → Fine (next (a, held))) → Fine (had r next)
    does_fine P (fails f) next ok h = tt
    does_fine P (gives (a, held)) next ok h = h a held ok

    having_fine : (e : Expr) → ExprFits source e → (visible : List Visible) → VisibleText visible → (used : Charge) (next : Value × Charge → Reading) →
        ((v : Value) (held : Charge) → WellFormedValue v → Fine (next (v, held))) → Fine (having setting name source included e visible used next)
    having_fine e fit visible good used next h =
        does_fine WellFormedValue _ next (expr_does setting hosts_good source visible good e fit used) h

    include_fine : (s : String) (visible : List Visible) → VisibleText visible → (used : Charge) →
        Fine (had (template_named setting name source included s) λ template. included s.text template visible used)
    include_fine s visible good used = by (find setting.templates s.text) refl
      where
        by : (o : Option Template) → find setting.templates s.text ≡ o →
            Fine (had (elim o [ some template ↦ gives template | none ↦ fails (fault_at UnknownTemplate s.span 0) ])
            λ template. included s.text template visible used)
        by (some template) e = fine s.text template e visible good used
        by none e = tt

    mutual
      unfolding read_stmt

      stmt_fine : (stmt : Stmt) → StmtFits source stmt → (visible : List Visible) → VisibleText visible → (used : Charge) →
          Fine (read_stmt setting name source included stmt visible used)
      stmt_fine (Raw span) fit visible good used = (span_text source span source_good fit, tt)
      stmt_fine (Inline e) fit visible good used =
          does_fine (WrittenText setting hosts_good source visible good) _ _ (emit_does setting hosts_good source visible good e fit.fits used)
          λ written held ok. (ok, tt)
      stmt_fine (Include other) fit visible good used = include_fine other visible good used
      stmt_fine (IncludeWith other e) fit visible good used =
          having_fine e fit.1.fits visible good used _ λ v held ok. include_fine other (parts_of v ∷ boundary ∷ visible) (ok, (tt, good)) held
      stmt_fine (If negated e body) fit visible good used =
          having_fine e fit.0.fits visible good used _ λ v held ok.
          choose (passes setting name source included negated v) _ _ (scope_fine body fit.1 visible good used) tt
      stmt_fine (IfElse negated e body otherwise) fit visible good used =
          having_fine e fit.0.fits visible good used _ λ v held ok.
          choose (passes setting name source included negated v) _ _ (scope_fine body fit.1 visible good used) (scope_fine otherwise fit.2 visible good used)
      stmt_fine (For vars e body) fit visible good used =
          having_fine e fit.1.fits visible good used _ λ v held ok.
          had_fine TurnsText (turns source vars v (expr_span e)) _ (turns_text source vars v (expr_span e) ok) λ all each_good.
          all_fine _ all each_good λ turn of_turn. scope_fine body fit.2 (looping turn ∷ visible) (of_turn, good) held
      stmt_fine (With alias e body) fit visible good used =
          having_fine e fit.1.fits visible good used _ λ v held ok.
          scope_fine body fit.2 (named (text_at source alias) v ∷ visible) (ok, good) held

      pub scope_fine : (scope : Scope) → ScopeFits source scope → (visible : List Visible) → VisibleText visible → (used : Charge) →
          Fine (read_scope setting name source included scope visible used)
      scope_fine done fit visible good used = tt
      scope_fine (stmt then rest) fit visible good used =
          then_fine _ _ _ (stmt_fine stmt fit.0 visible good used) (scope_fine rest fit.1 visible good used)

  pub opening_fine : (more : ℕ) → FineIncluded (opening setting more)
  opening_fine zero name template held visible good used = tt
  opening_fine (suc more) name template held visible good used =
      let limits : Limits template.source template.tree = held_ones name template held in
      subst Fine (sym (templates_are_read setting more name template visible used))
      (scope_fine name template.source limits.source_text (opening setting more) (opening_fine more) template.tree limits.fits visible good used)

-- RENDERINGS

whole_text : (events : List Event) → EachIsText events → IsText (text events)
whole_text [] h = no_text
whole_text (offers piece ∷ events) h = two_texts piece.bytes (text events) h.0 (whole_text events h.1)

page_text : (size : ℕ) (events : List Event) (end : End) (there : List ℕ) → EachIsText events → IsText there →
    IsText (offer_all (page size) events end there).1
page_text size [] end there h k = k
page_text size (offers piece ∷ events) end there h k =
    by (leb (length piece.bytes) (size - length there)) (page_text size events end (there ++ piece.bytes) h.1 (two_texts there piece.bytes k h.0))
  where
    onward : Taken (List ℕ) → End × List ℕ
    onward t = elim t [ took n ↦ offer_all (page size) events end n | stopped level ↦ (faulted (stopped_at piece level), there) ]

    by : (x : Bool) → IsText (offer_all (page size) events end (there ++ piece.bytes)).1 →
        IsText (onward (cond x (took (there ++ piece.bytes)) (stopped 0))).1
    by true deeper = deeper
    by false deeper = k

module _ (hosts : Hosts) (hosts_good : HostsAnswerText hosts) (m : Model) (sound : Sound m) (name : Text) (depth : ℕ) (bottom : Visible)
    (bottom_good : LayerText bottom) where
  read_fine : (template : Template) → find m.templates name ≡ some template → Fine (read_of hosts m name depth bottom template)
  read_fine template known = opening_fine (setting_of hosts m) hosts_good held (suc (depth - 1)) name template known (bottom ∷ []) (bottom_good, tt) (cost m.loaded)
    where
      held : (name : Text) (template : Template) → find m.templates name ≡ some template → Limits template.source template.tree
      held name template known = subst Limited known (held_limited m.templates sound.checked name)

  rendering_text : (reading : Reading) → rendering hosts m name depth bottom ≡ gives reading → ReadsText reading
  rendering_text reading e =
      let (template, known, low, is) = gave_reading hosts m name depth bottom (find m.templates name) (ltb 32 depth) reading e in
      subst ReadsText is
      (record {
        pieces = read_fine template known;
        joined = whole_text (read_of hosts m name depth bottom template).events (read_fine template known);
      })

  page_after : (size : ℕ) (there : List ℕ) → IsText there → IsText (after_rendering (page size) m there (rendering hosts m name depth bottom)).2
  page_after size there k = by (find m.templates name) (ltb 32 depth) refl
    where
      by : (o : Option Template) (too_high : Bool) → find m.templates name ≡ o →
          IsText (after_rendering (page size) m there (rendered hosts m name depth bottom o too_high)).2
      by none too_high e = k
      by (some template) true e = k
      by (some template) false e =
          page_text size (read_of hosts m name depth bottom template).events (read_of hosts m name depth bottom template).end there (read_fine template e) k

pub renderings_are_text : RenderingsAreText
renderings_are_text hosts m name depth from reading sound good = (
  rendering_text hosts good m sound name depth (parts_of m.loaded) (value_is_text m.loaded sound.loaded_limits.fits) reading,
  λ answers. rendering_text hosts good m sound name depth (asking from) answers reading,
)

pub pages_hold_text : PagesHoldText
pages_hold_text hosts m name depth from size there sound good is_text = (
  page_after hosts good m sound name depth (parts_of m.loaded) (value_is_text m.loaded sound.loaded_limits.fits) size there is_text,
  λ answers. page_after hosts good m sound name depth (asking from) answers size there is_text,
)

-- THE HOSTS OF CHART PLOTTERS

len_text : AnswersText (function len)
len_text [] w all e = absurd (never_gives e)
len_text (v ∷ []) w all e = size_text v w e
  where
    size_text : (v w : Value) → size v ≡ gives w → WellFormedValue w
    size_text none_value w e = absurd (never_gives e)
    size_text (boolean b) w e = absurd (never_gives e)
    size_text (integer n) w e = absurd (never_gives e)
    size_text (float bits) w e = absurd (never_gives e)
    size_text (string s) w e = same_answer WellFormedValue e tt
    size_text (list xs) w e = same_answer WellFormedValue e tt
    size_text (map es) w e = same_answer WellFormedValue e tt
len_text (v ∷ x ∷ more) w all e = absurd (never_gives e)

chart_text : (name : Text) → AnswersText (chart_set name)
chart_text name = by (same_text name (codes "len")) (same_text name (codes "lat")) (same_text name (codes "lon")) (formatters_write_text.1 name)
  where
    by : (is_len is_lat is_lon : Bool) →
        NamesText (cond is_len (function len) (cond is_lat (formatter lat) (cond is_lon (formatter lon) nothing))) →
        AnswersText (cond is_len (function len) (cond is_lat (formatter lat) (cond is_lon (formatter lon) nothing)))
    by true is_lat is_lon writes = len_text
    by false true is_lon writes = writes
    by false false true writes = writes
    by false false false writes = tt

walk_of_text : (v : Value) → WellFormedValue v → SourceAnswersText (walk_of v)
walk_of_text v good path w e = by (walk (λ x. x) v path) (walk_text (λ x. x) v path good) e
  where
    by : (result : Walked Ask) → WalkText result → answer result ≡ gives w → WellFormedValue w
    by (found u) ok e = same_answer WellFormedValue e ok
    by missed ok e = same_answer WellFormedValue e tt
    by (failed at cause detail) ok e = absurd (never_gives e)

pots_text : (n : ℕ) (bytes : List ℕ) → WellFormedItems (pots n bytes)
unfolding well_formed completes others_of
pots_text zero bytes = tt
pots_text (suc n) bytes = ((refl, tt, (refl, tt, (refl, tt, (refl, tt, tt)))), pots_text n (drop 12 bytes))

pot_log_text : (log : List ℕ) → SourceAnswersText (pot_log log)
unfolding well_formed completes others_of
pot_log_text log = walk_of_text (map (entry (codes "pots") (list (pots (length log / 12) log)) no_entries)) (refl, pots_text (length log / 12) log, tt)

pub chart_hosts_answer_text : ChartHostsAnswerText
chart_hosts_answer_text = record {
  hosts = record { callables = chart_text; default_formatter = formatters_write_text.0 };
  values = walk_of_text;
  pots = pot_log_text;
}
