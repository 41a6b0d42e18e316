-- One reading beside another that is given more: they are the same, unless the first is cut short.
use Rattle.std.proofs.Common.{◌≡◌, ℕ, Bool, true, false, cond, ◌⊎◌, List, [], ◌∷◌, ◌++◌, map as each, sym, refl, ap, ◌∙◌, subst, inl, inr, append_assoc}
use Rattle.meaning.specs.Or.{Or, fails, gives}
use Rattle.meaning.specs.Step.{from, continue}
use Rattle.meaning.specs.Value.{Value, Items, no_items, Entries, no_entries, Text}
use Rattle.meaning.specs.declared.tree.Span.{Span}
use Rattle.meaning.specs.Tree.{Var, Expr, Base, Filter, BaseExpr, Variable, Literal, ListOf, MapOf, Paren, Call, Args, no_args, arg, Pairs, no_pairs, pair}
use Rattle.meaning.specs.Spans.{text_at, var_span, value_span, base_value_span}
use Rattle.meaning.specs.declared.fault.Cause.{Cause}
use Rattle.meaning.specs.declared.fault.Cause.TheVariants.{StoreFull}
use Rattle.meaning.specs.Fault.{Fault, fault_at, in_template}
use Rattle.meaning.specs.Parts.{append, insert}
use Rattle.meaning.specs.Charge.{Charge, one_cell, cell_and_text, cost, within, ◌⊕◌, Make, charge}
use Rattle.meaning.specs.Hosts.{Callable, nothing, formatter, function, Function, Formatter}
use Rattle.meaning.specs.Scopes.{Visible, look_up}
use Rattle.meaning.specs.Reading.{Event, End, finished, faulted, Reading, ◌followed_by◌, Templates, Setting}
use Rattle.meaning.specs.Expressions.{Argument, answer_at, ask_function, apply, read_expr, read_base, read_args, read_items, read_pairs, short_enough, write, write_one, emit_value, emit_call, emit, emit_base}
use Rattle.meaning.specs.Statements.{Included, in_order, once_had}
use Rattle.laws.specs.Called.{EachCalled, EachCalledInBase, EachCalledInArgs, EachCalledInPairs}

-- READINGS

-- the causes that cut the first short
module _ (Cuts : Cause → Type 0) where
  pub record Cut (short whole : Reading) : Type 0 where
    pub fault : Fault
    pub ends : short.end ≡ faulted fault
    pub because : Cuts fault.cause
    pub more : List Event
    pub begins : whole.events ≡ short.events ++ more

  abbrev pub Beside : Reading → Reading → Type 0
  Beside short whole = (short ≡ whole) ⊎ Cut short whole

  abbrev reading_of : List Event → End → Reading
  reading_of events end = record { events = events; end = end }

  -- behind a reading that is cut short nothing is read
  cut_followed : (a b more : List Event) (x y : End) (s t : Reading) (f : Fault) → x ≡ faulted f → Cuts f.cause → b ≡ a ++ more →
      Cut (reading_of a x followed_by s) (reading_of b y followed_by t)
  cut_followed a b more x y s t f e c begins =
      subst (λ (z : End). Cut (reading_of a z followed_by s) (reading_of b y followed_by t)) (sym e) (by y)
    where
      by : (z : End) → Cut (reading_of a (faulted f)) (reading_of b z followed_by t)
      by finished = record {
        fault = f;
        ends = refl;
        because = c;
        more = more ++ t.events;
        begins = ap (λ (l : List Event). l ++ t.events) begins ∙ append_assoc a more t.events;
      }
      by (faulted g) = record { fault = f; ends = refl; because = c; more = more; begins = begins }

  same_followed : (a : List Event) (x : End) (s t : Reading) → Beside s t → Beside (reading_of a x followed_by s) (reading_of a x followed_by t)
  same_followed a finished s t (inl e) = inl (ap (λ (r : Reading). reading_of a finished followed_by r) e)
  same_followed a finished s t (inr cut) =
      inr (record {
        fault = cut.fault;
        ends = cut.ends;
        because = cut.because;
        more = cut.more;
        begins = ap (λ (l : List Event). a ++ l) cut.begins ∙ sym (append_assoc a s.events cut.more);
      })
  same_followed a (faulted f) s t h = inl refl

  pub followed : (r r' s s' : Reading) → Beside r r' → Beside s s' → Beside (r followed_by s) (r' followed_by s')
  followed r r' s s' (inl e) h = subst (λ (x : Reading). Beside (r followed_by s) (x followed_by s')) e (same_followed r.events r.end s s' h)
  followed r r' s s' (inr cut) h =
      inr (cut_followed r.events r'.events cut.more r.end r'.end s s' cut.fault cut.ends cut.because cut.begins)

  pub ordered : {A : Type 0} (all : List A) (one one' : A → Reading) → ((a : A) → Beside (one a) (one' a)) →
      Beside (in_order (each one all)) (in_order (each one' all))
  ordered [] one one' h = inl refl
  ordered (a ∷ all) one one' h = followed (one a) (one' a) (in_order (each one all)) (in_order (each one' all)) (h a) (ordered all one one' h)

-- RESULTS

-- the causes that cut the first short, and how much may be in use at both
module _ (Cuts : Cause → Type 0) (Leaves : Charge → Charge → Type 0) where
  -- both fail alike, or give the same, or the first is cut short
  pub data Alike {A : Type 0} (r s : Or Fault (A × Charge)) : Type 0 where
    both_fail : (f : Fault) → r ≡ fails f → s ≡ fails f → Alike r s
    both_give : (a : A) (held held' : Charge) → r ≡ gives (a, held) → s ≡ gives (a, held') → Leaves held held' → Alike r s
    first_cut : (f : Fault) → r ≡ fails f → Cuts f.cause → Alike r s

  -- one step and then another
  then_alike : {A B : Type 0} (r s : Or Fault (A × Charge)) (next next' : A → Make B) → Alike r s →
      ((a : A) (held held' : Charge) → Leaves held held' → Alike (next a held) (next' a held')) → Alike (continue r next) (continue s next')
  then_alike {A} {B} r s next next' (both_fail f e e') h =
      both_fail f (ap (λ (x : Or Fault (A × Charge)). continue x next) e) (ap (λ (x : Or Fault (A × Charge)). continue x next') e')
  then_alike {A} {B} r s next next' (both_give a held held' e e' l) h =
      subst (λ (x : Or Fault (A × Charge)). Alike (continue x next) (continue s next')) (sym e)
      (subst (λ (x : Or Fault (A × Charge)). Alike (next a held) (continue x next')) (sym e') (h a held held' l))
  then_alike {A} {B} r s next next' (first_cut f e c) h = first_cut f (ap (λ (x : Or Fault (A × Charge)). continue x next) e) c

  -- what costs nothing
  from_alike : {A : Type 0} (o p : Or Fault A) (used used' : Charge) → o ≡ p → Leaves used used' → Alike (from o used) (from p used')
  from_alike {A} o p used used' e l = subst (λ (x : Or Fault A). Alike (from o used) (from x used')) e (by o)
    where
      by : (x : Or Fault A) → Alike (from x used) (from x used')
      by (fails f) = both_fail f refl refl
      by (gives a) = both_give a used used' refl refl l

  given : {A : Type 0} (a : A) (held held' : Charge) → Leaves held held' → Alike {A = A} (gives (a, held)) (gives (a, held'))
  given a held held' l = both_give a held held' refl refl l

  chosen : {A : Type 0} (x y : Bool) (a : A) (held held' : Charge) (f : Fault) → Leaves held held' → (x ≡ y) ⊎ ((x ≡ false) × Cuts f.cause) →
      Alike {A = A} (cond x (gives (a, held)) (fails f)) (cond y (gives (a, held')) (fails f))
  chosen {A} x y a held held' f l (inl e) =
      subst (λ (z : Bool). Alike {A = A} (cond x (gives (a, held)) (fails f)) (cond z (gives (a, held')) (fails f))) e (by x)
    where
      by : (z : Bool) → Alike {A = A} (cond z (gives (a, held)) (fails f)) (cond z (gives (a, held')) (fails f))
      by true = both_give a held held' refl refl l
      by false = both_fail f refl refl
  chosen {A} x y a held held' f l (inr (e, c)) =
      first_cut f (ap (λ (z : Bool). let answer : Or Fault (A × Charge) = cond z (gives (a, held)) (fails f) in answer) e) c

  -- RESULTS THAT ARE READ ON

  module _ (setting setting' : Setting) (name : Text) (source : List ℕ) (included included' : Included) where
    abbrev first : {A : Type 0} → Or Fault A → (A → Reading) → Reading
    first = once_had setting name source included

    abbrev second : {A : Type 0} → Or Fault A → (A → Reading) → Reading
    second = once_had setting' name source included'

    pub once : {A : Type 0} (r : Or Fault A) (next next' : A → Reading) → ((a : A) → Beside Cuts (next a) (next' a)) →
        Beside Cuts (first r next) (second r next')
    once (fails f) next next' h = inl refl
    once (gives a) next next' h = h a

    pub had_beside : {A : Type 0} (r s : Or Fault (A × Charge)) (next next' : A × Charge → Reading) → Alike r s →
        ((a : A) (held held' : Charge) → Leaves held held' → Beside Cuts (next (a, held)) (next' (a, held'))) →
        Beside Cuts (first r next) (second s next')
    had_beside {A} r s next next' (both_fail f e e') h =
        subst (λ (x : Or Fault (A × Charge)). Beside Cuts (first x next) (second s next')) (sym e)
        (subst (λ (x : Or Fault (A × Charge)). Beside Cuts (first (fails f) next) (second x next')) (sym e') (inl refl))
    had_beside {A} r s next next' (both_give a held held' e e' l) h =
        subst (λ (x : Or Fault (A × Charge)). Beside Cuts (first x next) (second s next')) (sym e)
        (subst (λ (x : Or Fault (A × Charge)). Beside Cuts (next (a, held)) (second x next')) (sym e') (h a held held' l))
    had_beside {A} r s next next' (first_cut f e c) h =
        subst (λ (x : Or Fault (A × Charge)). Beside Cuts (first x next) (second s next')) (sym e)
        (inr (record { fault = in_template name f; ends = refl; because = c; more = (second s next').events; begins = refl }))

  -- EXPRESSIONS

  -- where a making fits the second supply if it fits the first, and then leaves so much again; or where a full store cuts short
  abbrev pub Fits : (supply supply' : Charge) → Type 0
  Fits supply supply' =
      (used used' more : Charge) → Leaves used used' →
      ((within supply (used ⊕ more) ≡ within supply' (used' ⊕ more)) ⊎ ((within supply (used ⊕ more) ≡ false) × Cuts StoreFull))
      × Leaves (used ⊕ more) (used' ⊕ more)

  -- in one template, under two supplies and where two things are visible
  module _ (default : Formatter) (here there : Text → Callable) (Called : Text → Type 0) (calls : (name : Text) → Called name → here name ≡ there name)
      (supply supply' : Charge) (templates templates' : Templates) (source : List ℕ) (fits : Fits supply supply') where
    abbrev setting : Setting
    setting = record { supply = supply; templates = templates; hosts = record { callables = here; default_formatter = default } }

    abbrev setting' : Setting
    setting' = record { supply = supply'; templates = templates'; hosts = record { callables = there; default_formatter = default } }

    charged : {A : Type 0} (span : Span) (more : Charge) (a : A) (used used' : Charge) → Leaves used used' →
        Alike (charge supply span more a used) (charge supply' span more a used')
    charged span more a used used' l =
        chosen (within supply (used ⊕ more)) (within supply' (used' ⊕ more)) a (used ⊕ more) (used' ⊕ more) (fault_at StoreFull span 0)
        (fits used used' more l).1 (fits used used' more l).0

    asked : (f : Function) (call whole : Span) (args : List Argument) (used used' : Charge) → Leaves used used' →
        Alike (ask_function supply f call whole args used) (ask_function supply' f call whole args used')
    asked f call whole args used used' l =
        then_alike _ _ _ _ (from_alike (answer_at call args (f (each (λ a. a.0) args))) _ used used' refl l) λ v held held' l'.
        charged whole (cost v) v held held' l'

    module _ (visible visible' : List Visible) (looks : (v : Var) → look_up source visible v ≡ look_up source visible' v) where
      -- the settings in which every name stands for the same
      abbrev calling : Charge → Templates → Callable → Setting
      calling supply templates c =
          record { supply = supply; templates = templates; hosts = record { callables = λ name. c; default_formatter = default } }

      applied : (name whole : Span) (args : List Argument) → Called (text_at source name) → (used used' : Charge) → Leaves used used' →
          Alike (apply setting source visible name whole args used) (apply setting' source visible' name whole args used')
      applied name whole args called used used' l =
          subst (λ (c : Callable).
          Alike (apply (calling supply templates (here (text_at source name))) source visible name whole args used)
          (apply (calling supply' templates' c) source visible' name whole args used'))
          (calls (text_at source name) called) (by (here (text_at source name)))
        where
          by : (c : Callable) →
              Alike (apply (calling supply templates c) source visible name whole args used)
              (apply (calling supply' templates' c) source visible' name whole args used')
          by nothing = both_fail _ refl refl
          by (formatter f) = both_fail _ refl refl
          by (function f) = asked f whole whole args used used' l

      mutual
        unfolding read_expr

        pub expr_alike : (e : Expr) → EachCalled source Called e → (used used' : Charge) → Leaves used used' →
            Alike (read_expr setting source visible e used) (read_expr setting' source visible' e used')
        expr_alike (Base b) called used used' l = base_alike b called used used' l
        expr_alike (Filter name whole receiver args) called used used' l =
            then_alike _ _ _ _ (expr_alike receiver called.1 used used' l) λ v held held' l'.
            then_alike _ _ _ _ (args_alike args called.2 held held' l') λ vs last last' l''.
            applied name whole ((v, value_span receiver) ∷ vs) called.0 last last' l''

        base_alike : (b : BaseExpr) → EachCalledInBase source Called b → (used used' : Charge) → Leaves used used' →
            Alike (read_base setting source visible b used) (read_base setting' source visible' b used')
        base_alike (Variable v) called used used' l =
            then_alike _ _ _ _ (from_alike _ _ used used' (looks v) l) λ had held held' l'.
            charged (var_span v) had.1 had.0 held held' l'
        base_alike (Literal span v) called used used' l = charged span (cost v) v used used' l
        base_alike (ListOf span items) called used used' l =
            then_alike _ _ _ _ (charged span one_cell no_items used used' l) λ empty held held' l'.
            then_alike _ _ _ _ (items_alike items called span empty held held' l') λ full last last' l''.
            given _ last last' l''
        base_alike (MapOf span pairs) called used used' l =
            then_alike _ _ _ _ (charged span one_cell no_entries used used' l) λ empty held held' l'.
            then_alike _ _ _ _ (pairs_alike pairs called span empty held held' l') λ full last last' l''.
            given _ last last' l''
        base_alike (Paren span e) called used used' l = expr_alike e called used used' l
        base_alike (Call name whole args) called used used' l =
            then_alike _ _ _ _ (args_alike args called.1 used used' l) λ vs held held' l'.
            applied name whole vs called.0 held held' l'

        args_alike : (args : Args) → EachCalledInArgs source Called args → (used used' : Charge) → Leaves used used' →
            Alike (read_args setting source visible args used) (read_args setting' source visible' args used')
        args_alike no_args called used used' l = given _ used used' l
        args_alike (arg b rest) called used used' l =
            then_alike _ _ _ _ (base_alike b called.0 used used' l) λ v held held' l'.
            then_alike _ _ _ _ (args_alike rest called.1 held held' l') λ vs last last' l''.
            given _ last last' l''

        items_alike : (args : Args) → EachCalledInArgs source Called args → (span : Span) (so_far : Items) (used used' : Charge) → Leaves used used' →
            Alike (read_items setting source visible args span so_far used) (read_items setting' source visible' args span so_far used')
        items_alike no_args called span so_far used used' l = given _ used used' l
        items_alike (arg b rest) called span so_far used used' l =
            then_alike _ _ _ _ (base_alike b called.0 used used' l) λ v held held' l'.
            then_alike _ _ _ _ (charged span one_cell (append so_far v) held held' l') λ more last last' l''.
            items_alike rest called.1 span more last last' l''

        pairs_alike : (pairs : Pairs) → EachCalledInPairs source Called pairs → (span : Span) (so_far : Entries) (used used' : Charge) → Leaves used used' →
            Alike (read_pairs setting source visible pairs span so_far used) (read_pairs setting' source visible' pairs span so_far used')
        pairs_alike no_pairs called span so_far used used' l = given _ used used' l
        pairs_alike (pair key b rest) called span so_far used used' l =
            then_alike _ _ _ _ (base_alike b called.0 used used' l) λ v held held' l'.
            then_alike _ _ _ _ (charged span (cell_and_text key.text) (insert key.text v so_far) held held' l') λ more last last' l''.
            pairs_alike rest called.1 span more last last' l''

      -- INLINE EXPRESSIONS

      written : (format : Formatter) (span : Span) (v : Value) (used used' : Charge) → Leaves used used' →
          Alike (write setting source visible format span v used) (write setting' source visible' format span v used')
      written format span v used used' l = from_alike (short_enough setting source visible span (format v)) _ used used' refl l

      value_alike : (b : BaseExpr) → EachCalledInBase source Called b → (used used' : Charge) → Leaves used used' →
          Alike (emit_value setting source visible b used) (emit_value setting' source visible' b used')
      value_alike b called used used' l =
          then_alike _ _ _ _ (base_alike b called used used' l) λ v held held' l'.
          written default (base_value_span b) v held held' l'

      one_written : (format : Formatter) (name : Span) (args : List Argument) (used used' : Charge) → Leaves used used' →
          Alike (write_one setting source visible format name args used) (write_one setting' source visible' format name args used')
      one_written format name [] used used' l = both_fail _ refl refl
      one_written format name (a ∷ []) used used' l = written format name a.0 used used' l
      one_written format name (a ∷ b ∷ more) used used' l = both_fail _ refl refl

      call_alike : (name whole : Span) (args : List Argument) → Called (text_at source name) → (used used' : Charge) → Leaves used used' →
          Alike (emit_call setting source visible name whole args used) (emit_call setting' source visible' name whole args used')
      call_alike name whole args called used used' l =
          subst (λ (c : Callable).
          Alike (emit_call (calling supply templates (here (text_at source name))) source visible name whole args used)
          (emit_call (calling supply' templates' c) source visible' name whole args used'))
          (calls (text_at source name) called) (by (here (text_at source name)))
        where
          by : (c : Callable) →
              Alike (emit_call (calling supply templates c) source visible name whole args used)
              (emit_call (calling supply' templates' c) source visible' name whole args used')
          by nothing = both_fail _ refl refl
          by (formatter f) = one_written f name args used used' l
          by (function f) =
              then_alike _ _ _ _ (asked f name whole args used used' l) λ v held held' l'.
              written default whole v held held' l'

      mutual
        unfolding read_expr emit

        pub emit_alike : (e : Expr) → EachCalled source Called e → (used used' : Charge) → Leaves used used' →
            Alike (emit setting source visible e used) (emit setting' source visible' e used')
        emit_alike (Base b) called used used' l = emit_base_alike b called used used' l
        emit_alike (Filter name whole receiver args) called used used' l =
            then_alike _ _ _ _ (expr_alike receiver called.1 used used' l) λ v held held' l'.
            then_alike _ _ _ _ (args_alike args called.2 held held' l') λ vs last last' l''.
            call_alike name whole ((v, value_span receiver) ∷ vs) called.0 last last' l''

        emit_base_alike : (b : BaseExpr) → EachCalledInBase source Called b → (used used' : Charge) → Leaves used used' →
            Alike (emit_base setting source visible b used) (emit_base setting' source visible' b used')
        emit_base_alike (Variable v) called used used' l = value_alike (Variable v) called used used' l
        emit_base_alike (Literal span v) called used used' l = value_alike (Literal span v) called used used' l
        emit_base_alike (ListOf span items) called used used' l = value_alike (ListOf span items) called used used' l
        emit_base_alike (MapOf span pairs) called used used' l = value_alike (MapOf span pairs) called used used' l
        emit_base_alike (Paren span e) called used used' l = emit_alike e called used used' l
        emit_base_alike (Call name whole args) called used used' l =
            then_alike _ _ _ _ (args_alike args called.1 used used' l) λ vs held held' l'.
            call_alike name whole vs called.0 held held' l'
