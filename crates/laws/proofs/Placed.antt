-- The spans of faults lie in the sources of their templates.
use Rattle.std.proofs.Common.{◌≡◌, ℕ, ◌-◌, ◌≤◌, Bool, true, false, cond, ◌&&◌, leb, ltb, min, max, List, [], ◌∷◌, sym, refl, ap, ◌∙◌, subst, inl, inr, arith, leb-true, leb-false, le-leb}
use Rattle.std.proofs.lemmas.Bool.{and_parts}
use Rattle.std.proofs.Math.Nat.{min-eq_left, min-eq_right, max-eq_left, max-eq_right, min-le_left, le-max_left}
use mathlib.Core.Option.{Option, none, some}
use Rattle.std.specs.Str.{bytes_eq as same_text}
use Rattle.meaning.specs.Value.{Text}
use Rattle.meaning.specs.declared.tree.Span.{Span}
use Rattle.meaning.specs.declared.tree.Member.{Member}
use Rattle.meaning.specs.Tree.{Expr, Base, Filter, BaseExpr, Variable, Literal, ListOf, MapOf, Paren, Call, Args, no_args, arg, Pairs, no_pairs, pair, LoopVars, Item, KeyValue, Stmt, Raw, Inline, Include, IncludeWith, If, IfElse, For, With, Scope, done, ◌then◌}
use Rattle.meaning.specs.Spans.{combine}
use Rattle.meaning.specs.Fault.{Fault}
use Rattle.meaning.specs.Charge.{cost}
use Rattle.meaning.specs.Hosts.{Hosts, Sink, Taken, took, stopped}
use Rattle.meaning.specs.Scopes.{Visible, parts_of, asking}
use Rattle.meaning.specs.Reading.{Event, offers, End, finished, faulted, Reading, Template, Templates, find}
use Rattle.meaning.specs.Offering.{stopped_at, offer_all}
use Rattle.meaning.specs.SinkLaws.{sink_of}
use Rattle.packing.specs.Rfc3629.{between_characters}
use Rattle.packing.specs.Limits.{inside, Inside, MembersFit, ExprFits, BaseFits, ArgsFit, PairsFit, VarsFit, StmtFits, ScopeFits, Limits}
use Rattle.model.specs.Model.{Model, rendered as after_rendering}
use Rattle.model.specs.Laws.{AllChecked, Sound}
use Rattle.laws.specs.Places.{opening}
use Rattle.laws.specs.Renderings.{InItsSource, FaultsLieInTheirSource}
use Rattle.laws.proofs.Boundary.{templates_are_read}
use Rattle.laws.proofs.Spans.{MembersGood, ExprGood, BaseGood, ArgsGood, PairsGood, VarsGood, StmtGood, ScopeGood}
use Rattle.laws.proofs.Faults.{EndsWell, Told, as_raw, as_short, Offers, Fine, scope_fine, opening_fine}
use Rattle.laws.proofs.Renderings.{setting_of, read_of, rendered}

-- SPANS

both_hold : (x y : Bool) → x ≡ true → y ≡ true → (x && y) ≡ true
both_hold x y e f = ap (λ (z : Bool). z && y) e ∙ f

-- the less of two is one of them, and so is the greater
is_less : (P : ℕ → Type 0) (a b : ℕ) → P a → P b → P (min a b)
is_less P a b p q = by (leb a b) refl
  where
    by : (x : Bool) → leb a b ≡ x → P (min a b)
    by true e = subst P (sym (min-eq_left (leb-true a b e))) p
    by false e =
        let less : b ≤ a = (let h = leb-false a b e in omega arith) in
        subst P (sym (min-eq_right less)) q

is_greater : (P : ℕ → Type 0) (a b : ℕ) → P a → P b → P (max a b)
is_greater P a b p q = by (leb a b) refl
  where
    by : (x : Bool) → leb a b ≡ x → P (max a b)
    by true e = subst P (sym (max-eq_right (leb-true a b e))) q
    by false e =
        let less : b ≤ a = (let h = leb-false a b e in omega arith) in
        subst P (sym (max-eq_left less)) p

-- the least span over two lies in the source if they do
both_inside : (source : Text) (a b : Span) → Inside source a → Inside source b → Inside source (combine a b)
unfolding inside
both_inside source a b h k =
    let of_a : (leb a.start a.end ≡ true) × ((between_characters source a.start && between_characters source a.end) ≡ true) =
    and_parts (leb a.start a.end) (between_characters source a.start && between_characters source a.end) h in
    let of_b : (leb b.start b.end ≡ true) × ((between_characters source b.start && between_characters source b.end) ≡ true) =
    and_parts (leb b.start b.end) (between_characters source b.start && between_characters source b.end) k in
    let ends_of_a : (between_characters source a.start ≡ true) × (between_characters source a.end ≡ true) =
    and_parts (between_characters source a.start) (between_characters source a.end) of_a.1 in
    let ends_of_b : (between_characters source b.start ≡ true) × (between_characters source b.end ≡ true) =
    and_parts (between_characters source b.start) (between_characters source b.end) of_b.1 in
    let forward : a.start ≤ a.end = leb-true a.start a.end of_a.0 in
    let first : min a.start b.start ≤ a.start = min-le_left a.start b.start in
    let last : a.end ≤ max a.end b.end = le-max_left a.end b.end in
    let ordered : min a.start b.start ≤ max a.end b.end = omega arith in
    both_hold (leb (min a.start b.start) (max a.end b.end)) _ (le-leb (min a.start b.start) (max a.end b.end) ordered)
    (both_hold (between_characters source (min a.start b.start)) (between_characters source (max a.end b.end))
    (is_less (λ n. between_characters source n ≡ true) a.start b.start ends_of_a.0 ends_of_b.0)
    (is_greater (λ n. between_characters source n ≡ true) a.end b.end ends_of_a.1 ends_of_b.1))

-- TREES WITHIN THE LIMITS

module _ (source : Text) (Good : Span → Type 0) (good : (span : Span) → Inside source span → Good span) where
  members_fit : (ms : List Member) → MembersFit source ms → MembersGood Good ms
  members_fit [] fit = tt
  members_fit (m ∷ ms) fit = (good m.span fit.0.placed, members_fit ms fit.1)

  mutual
    expr_fits : (e : Expr) → ExprFits source e → ExprGood Good e
    expr_fits (Base b) fit = base_fits b fit
    expr_fits (Filter name whole receiver args) fit = (good name fit.0, good whole fit.1, expr_fits receiver fit.3, args_fit args fit.4)

    base_fits : (b : BaseExpr) → BaseFits source b → BaseGood Good b
    base_fits (Variable v) fit = (good v.first.span fit.1.0.placed, members_fit v.rest fit.1.1)
    base_fits (Literal span v) fit = good span fit.0
    base_fits (ListOf span items) fit = (good span fit.0, args_fit items fit.2)
    base_fits (MapOf span pairs) fit = (good span fit.0, pairs_fit pairs fit.2)
    base_fits (Paren span e) fit = (good span fit.0, expr_fits e fit.1)
    base_fits (Call name whole args) fit = (good name fit.0, good whole fit.1, args_fit args fit.3)

    args_fit : (args : Args) → ArgsFit source args → ArgsGood Good args
    args_fit no_args fit = tt
    args_fit (arg b rest) fit = (base_fits b fit.0, args_fit rest fit.1)

    pairs_fit : (pairs : Pairs) → PairsFit source pairs → PairsGood Good pairs
    pairs_fit no_pairs fit = tt
    pairs_fit (pair k b rest) fit = (base_fits b fit.1, pairs_fit rest fit.2)

  vars_fit : (vars : LoopVars) → VarsFit source vars → VarsGood Good vars
  vars_fit (Item name) fit = good name fit
  vars_fit (KeyValue k w both) fit = good both fit.2

  mutual
    stmt_fits : (stmt : Stmt) → StmtFits source stmt → StmtGood Good stmt
    stmt_fits (Raw span) fit = tt
    stmt_fits (Inline e) fit = expr_fits e fit.fits
    stmt_fits (Include other) fit = good other.span fit.placed
    stmt_fits (IncludeWith other e) fit = (good other.span fit.0.placed, expr_fits e fit.1.fits)
    stmt_fits (If negated e body) fit = (expr_fits e fit.0.fits, scope_fits body fit.1)
    stmt_fits (IfElse negated e body otherwise) fit = (expr_fits e fit.0.fits, scope_fits body fit.1, scope_fits otherwise fit.2)
    stmt_fits (For vars e body) fit = (vars_fit vars fit.0, expr_fits e fit.1.fits, scope_fits body fit.2)
    stmt_fits (With alias e body) fit = (expr_fits e fit.1.fits, scope_fits body fit.2)

    scope_fits : (scope : Scope) → ScopeFits source scope → ScopeGood Good scope
    scope_fits done fit = tt
    scope_fits (stmt then rest) fit = (stmt_fits stmt fit.0, scope_fits rest fit.1)

-- TEMPLATES THAT ARE HELD

abbrev pub Limited : Option Template → Type 0
Limited (some template) = Limits template.source template.tree
Limited none = Unit {0}

pub held_limited : (templates : Templates) → AllChecked templates → (name : Text) → Limited (find templates name)
held_limited [] all name = tt
held_limited ((other, template) ∷ rest) all name = by (same_text name other) (held_limited rest all.1 name)
  where
    by : (x : Bool) → Limited (find rest name) → Limited (cond x (some template) (find rest name))
    by true h = all.0.limits
    by false h = h

same_template : (o : Option Template) (t u : Template) → o ≡ some t → o ≡ some u → t ≡ u
same_template o t u e f = ap the_template (sym e ∙ f)
  where
    the_template : Option Template → Template
    the_template (some x) = x
    the_template none = t

same_span : {s t : Span} → ◌≡◌ {A = Option Span} (some s) (some t) → s ≡ t
same_span {s} e = ap the_span e
  where
    the_span : Option Span → Span
    the_span (some x) = x
    the_span none = s

module _ (hosts : Hosts) (m : Model) (sound : Sound m) where
  abbrev Held : Text → Type 0
  Held name = (template : Template) × (find m.templates name ≡ some template)

  abbrev Lies : Text → Span → Type 0
  Lies name span = (template : Template) → find m.templates name ≡ some template → inside template.source span ≡ true

  lies_joined : (name : Text) (a b : Span) → Lies name a → Lies name b → Lies name (combine a b)
  lies_joined name a b h k template found = both_inside template.source a b (h template found) (k template found)

  held_lie : (name : Text) (template : Template) → find m.templates name ≡ some template → Held name × ScopeGood (Lies name) template.tree
  held_lie name template found =
      let limits : Limits template.source template.tree = subst Limited found (held_limited m.templates sound.checked name) in (
        (template, found),
        scope_fits template.source (Lies name)
            (λ span lies other also. subst (λ (t : Template). inside t.source span ≡ true) (same_template (find m.templates name) template other found also) lies)
            template.tree limits.fits,
      )

  abbrev FineHere : Reading → Type 0
  FineHere = Fine Held Lies lies_joined

  read_fine : (name : Text) (depth : ℕ) (bottom : Visible) (template : Template) → find m.templates name ≡ some template →
      FineHere (read_of hosts m name depth bottom template)
  read_fine name depth bottom template found =
      subst FineHere (sym (templates_are_read (setting_of hosts m) (depth - 1) name template (bottom ∷ []) (cost m.loaded)))
      (scope_fine Held Lies lies_joined (setting_of hosts m) held_lie name (template, found) template.source (opening (setting_of hosts m) (depth - 1))
      (opening_fine Held Lies lies_joined (setting_of hosts m) held_lie (depth - 1)) template.tree (held_lie name template found).1 (bottom ∷ [])
      (cost m.loaded))

  -- WHAT A CALL ANSWERS

  -- a fault with a span lies in its source
  abbrev Placed : End → Type 0
  Placed finished = Unit {0}
  Placed (faulted f) = (span : Span) → f.span ≡ some span → InItsSource m f span

  abbrev IsNone : {A : Type 0} → Option A → Type 0
  IsNone none = Unit {0}
  IsNone (some a) = ⊥

  ends_placed : (end : End) → EndsWell Held Lies lies_joined end → Placed end
  ends_placed finished well = tt
  ends_placed (faulted f) (inl e) = λ span there. absurd (subst IsNone (sym (ap (λ (g : Fault). g.span) e) ∙ there) tt)
  ends_placed (faulted f) (inr w) = λ span there.
      record {
        name = w.name;
        in_it = w.in_it;
        template = w.is_read.0;
        held = w.is_read.1;
        lies =
            subst (λ (s : Span). inside w.is_read.0.source s ≡ true) (same_span (sym w.spanned.1 ∙ there))
            (w.spanned.2 w.is_read.0 w.is_read.1);
      }

  offered_placed : (sink : Sink) (events : List Event) (end : End) (there : sink.State) → Offers Held Lies lies_joined events →
      EndsWell Held Lies lies_joined end → Placed (offer_all sink events end there).0
  offered_placed sink [] end there offers_well well = ends_placed end well
  offered_placed sink (offers piece ∷ events) end there offers_well well =
      by (sink.take there piece.bytes) (λ n. offered_placed sink events end n offers_well.1 well)
    where
      stop : Told Held Lies lies_joined piece → (level : ℕ) → Placed (faulted (stopped_at piece level))
      stop (as_raw none_there) level = λ span there'. absurd (subst IsNone (sym none_there ∙ there') tt)
      stop (as_short at_span is lies short) level = λ span there'.
          record {
            name = piece.template;
            in_it = refl;
            template = offers_well.0.0.0;
            held = offers_well.0.0.1;
            lies =
                subst (λ (s : Span). inside offers_well.0.0.0.source s ≡ true) (same_span (sym is ∙ there')) (lies offers_well.0.0.0 offers_well.0.0.1);
          }

      by : (t : Taken sink.State) → ((n : sink.State) → Placed (offer_all sink events end n).0) →
          (let answer : End × sink.State = elim t [ took n ↦ offer_all sink events end n | stopped level ↦ (faulted (stopped_at piece level), there) ] in
          Placed answer.0)
      by (took n) h = h n
      by (stopped level) h = stop offers_well.0.1 level

  answer_placed : (sink : Sink) (s : sink.State) (name : Text) (depth : ℕ) (bottom : Visible) (o : Option Template) (too_high : Bool) →
      find m.templates name ≡ o → Placed (after_rendering sink m s (rendered hosts m name depth bottom o too_high)).0
  answer_placed sink s name depth bottom none too_high e = λ span there. absurd (subst IsNone there tt)
  answer_placed sink s name depth bottom (some template) true e = λ span there. absurd (subst IsNone there tt)
  answer_placed sink s name depth bottom (some template) false e =
      let reading : Reading = read_of hosts m name depth bottom template in
      offered_placed sink reading.events reading.end s (read_fine name depth bottom template e).0 (read_fine name depth bottom template e).1

pub faults_lie_in_their_source : FaultsLieInTheirSource
faults_lie_in_their_source hosts t m s name depth from f span sound there = (
  λ e. (subst (Placed hosts m sound) e
      (answer_placed hosts m sound (sink_of t) s name depth (parts_of m.loaded) (find m.templates name) (ltb 32 depth) refl)) span there,
  λ e. (subst (Placed hosts m sound) e
      (answer_placed hosts m sound (sink_of t) s name depth (asking from) (find m.templates name) (ltb 32 depth) refl)) span there,
)
