-- What a template is called is only reported.
use Rattle.std.proofs.Common.{◌≡◌, ℕ, Bool, true, false, List, [], ◌∷◌, ◌++◌, map as each, sym, refl, ap, ◌∙◌}
use Rattle.meaning.specs.Or.{Or, fails, gives}
use Rattle.meaning.specs.Value.{Text}
use Rattle.meaning.specs.Tree.{String, Stmt, Raw, Inline, Include, IncludeWith, If, IfElse, For, With, Scope, done, ◌then◌}
use Rattle.meaning.specs.Spans.{text_at, expr_span}
use Rattle.meaning.specs.Fault.{Fault}
use Rattle.meaning.specs.Charge.{Charge}
use Rattle.meaning.specs.Scopes.{Visible, parts_of, named, looping, boundary}
use Rattle.meaning.specs.Reading.{Event, offers, End, finished, faulted, Reading, ◌followed_by◌, Setting}
use Rattle.meaning.specs.Expressions.{read_expr, emit}
use Rattle.meaning.specs.Statements.{Included, in_order, turns, once_had, template_named, passes, read_stmt, read_scope}
use Rattle.laws.specs.Places.{opening}
use Rattle.laws.specs.Faults.{nameless_end, nameless_events, nameless, NamesAreOnlyReported}

nameless_joined : (a b : List Event) → nameless_events (a ++ b) ≡ nameless_events a ++ nameless_events b
nameless_joined [] b = refl
nameless_joined (offers piece ∷ a) b = ap (λ (events : List Event). offers (record piece { template = [] }) ∷ events) (nameless_joined a b)

-- the same but for names
abbrev Same : Reading → Reading → Type 0
Same r s = nameless r ≡ nameless s

nameless_followed : (a : List Event) (x : End) (s : Reading) →
    nameless (record { events = a; end = x } followed_by s) ≡ nameless (record { events = a; end = x }) followed_by nameless s
nameless_followed a finished s = ap (λ (events : List Event). record { events = events; end = nameless_end s.end }) (nameless_joined a s.events)
nameless_followed a (faulted f) s = refl

followed_same : (r r' s s' : Reading) → Same r r' → Same s s' → Same (r followed_by s) (r' followed_by s')
followed_same r r' s s' e f =
    nameless_followed r.events r.end s
    ∙ ap (λ (x : Reading). x followed_by nameless s) e
    ∙ ap (λ (x : Reading). nameless r' followed_by x) f
    ∙ sym (nameless_followed r'.events r'.end s')

ordered_same : {A : Type 0} (all : List A) (one one' : A → Reading) → ((a : A) → Same (one a) (one' a)) →
    Same (in_order (each one all)) (in_order (each one' all))
ordered_same [] one one' h = refl
ordered_same (a ∷ all) one one' h = followed_same (one a) (one' a) (in_order (each one all)) (in_order (each one' all)) (h a) (ordered_same all one one' h)

which_same : (x : Bool) (r r' s s' : Reading) → Same r r' → Same s s' → Same (elim x [ true ↦ r | false ↦ s ]) (elim x [ true ↦ r' | false ↦ s' ])
which_same true r r' s s' h k = h
which_same false r r' s s' h k = k

module _ (setting : Setting) (name other : Text) (source : List ℕ) (included : Included) where
  had_same : {A : Type 0} (r : Or Fault A) (next next' : A → Reading) → ((a : A) → Same (next a) (next' a)) →
      Same (once_had setting name source included r next) (once_had setting other source included r next')
  had_same (fails f) next next' h = refl
  had_same (gives a) next next' h = h a

  include_same : (s : String) (visible : List Visible) (used : Charge) →
      Same (once_had setting name source included (template_named setting name source included s) λ template. included s.text template visible used)
      (once_had setting other source included (template_named setting other source included s) λ template. included s.text template visible used)
  include_same s visible used =
      had_same (template_named setting name source included s) (λ template. included s.text template visible used)
      (λ template. included s.text template visible used) λ template. refl

  mutual
    unfolding read_stmt

    stmt_same : (stmt : Stmt) (visible : List Visible) (used : Charge) →
        Same (read_stmt setting name source included stmt visible used) (read_stmt setting other source included stmt visible used)
    stmt_same (Raw span) visible used = refl
    stmt_same (Inline e) visible used = had_same (emit setting source visible e used) _ _ λ w. refl
    stmt_same (Include s) visible used = include_same s visible used
    stmt_same (IncludeWith s e) visible used =
        had_same (read_expr setting source visible e used) _ _ λ w.
        include_same s (parts_of w.0 ∷ boundary ∷ visible) w.1
    stmt_same (If negated e body) visible used =
        had_same (read_expr setting source visible e used) _ _ λ w.
        which_same (passes setting name source included negated w.0) _ _ _ _ (scope_same body visible used) refl
    stmt_same (IfElse negated e body otherwise) visible used =
        had_same (read_expr setting source visible e used) _ _ λ w.
        which_same (passes setting name source included negated w.0) _ _ _ _ (scope_same body visible used) (scope_same otherwise visible used)
    stmt_same (For vars e body) visible used =
        had_same (read_expr setting source visible e used) _ _ λ w.
        had_same (turns source vars w.0 (expr_span e)) _ _ λ all.
        ordered_same all _ _ λ turn.
        scope_same body (looping turn ∷ visible) w.1
    stmt_same (With alias e body) visible used =
        had_same (read_expr setting source visible e used) _ _ λ w.
        scope_same body (named (text_at source alias) w.0 ∷ visible) w.1

    scope_same : (scope : Scope) (visible : List Visible) (used : Charge) →
        Same (read_scope setting name source included scope visible used) (read_scope setting other source included scope visible used)
    scope_same done visible used = refl
    scope_same (stmt then rest) visible used = followed_same _ _ _ _ (stmt_same stmt visible used) (scope_same rest visible used)

pub names_are_only_reported : NamesAreOnlyReported
names_are_only_reported at name scope = scope_same at.setting at.name name at.source (opening at.setting at.more) scope at.visible at.used
