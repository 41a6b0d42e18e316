-- Statements and templates read beside themselves: where more is supplied, where what is found is the same, or where more templates may be open.
use Rattle.std.proofs.Common.{◌≡◌, ℕ, zero, suc, Bool, true, false, List, ◌∷◌, refl, ap, subst, inl}
use mathlib.Core.Option.{Option, none, some}
use Rattle.meaning.specs.Or.{Or, fails, gives}
use Rattle.meaning.specs.Value.{Value, none as none_value, Text}
use Rattle.meaning.specs.Tree.{String, Var, Expr, Stmt, Raw, Inline, Include, IncludeWith, If, IfElse, For, With, Scope, done, ◌then◌}
use Rattle.meaning.specs.Spans.{text_at, access_span, expr_span}
use Rattle.meaning.specs.declared.fault.Cause.{Cause}
use Rattle.meaning.specs.declared.fault.Cause.TheVariants.{UnknownTemplate}
use Rattle.meaning.specs.Fault.{Fault, fault_at}
use Rattle.meaning.specs.Charge.{Charge}
use Rattle.meaning.specs.Hosts.{Callable, Formatter}
use Rattle.meaning.specs.Walk.{found, missed, failed, part}
use Rattle.meaning.specs.Scopes.{Visible, parts_of, named, looping, asking, boundary, Had, stored, ask, walked, in_turn, look_up}
use Rattle.std.specs.Str.{bytes_eq as same_text}
use Rattle.meaning.specs.Reading.{Reading, Template, Templates, find, Setting}
use Rattle.meaning.specs.Statements.{Included, turns, passes, once_had, having, read_stmt, read_scope, read_template}
use Rattle.laws.specs.Included.{EachIncluded, EachIncludedByOne}
use Rattle.laws.specs.Places.{opening}
use Rattle.laws.specs.Called.{EachCalled, EachCalledByOne, EachCalledIn}
use Rattle.laws.proofs.Beside.{Beside, followed, ordered, once, had_beside, Fits, expr_alike, emit_alike}

-- WHAT IS FOUND

-- every variable of every template finds the same
abbrev pub Like : List Visible → List Visible → Type 0
Like a b = (source : List ℕ) (v : Var) → look_up source a v ≡ look_up source b v

-- also behind one more layer
pub behind_one : (layer : Visible) (a b : List Visible) (source : List ℕ) (v : Var) → look_up source a v ≡ look_up source b v →
    look_up source (layer ∷ a) v ≡ look_up source (layer ∷ b) v
unfolding look_up
behind_one (parts_of w) a b source v like =
    ap (λ (outward : Or Fault Had).
    elim (part (ask source) w v.first) [
      | found p ↦ walked source p v.rest
      | missed ↦ gives (stored none_value)
      | failed m cause detail ↦ outward
    ]) like
behind_one (named name w) a b source v like =
    ap (λ (outward : Or Fault Had).
    elim (same_text name (text_at source (access_span v.first.access))) [
      | true ↦ walked source w v.rest
      | false ↦ outward
    ]) like
behind_one (looping t) a b source v like =
    ap (λ (outward : Or Fault Had). elim (in_turn source t v.first.access v.rest) [ some had ↦ had | none ↦ outward ]) like
behind_one (asking from) a b source v like = refl
behind_one boundary a b source v like = refl

pub behind : (layer : Visible) (a b : List Visible) → Like a b → Like (layer ∷ a) (layer ∷ b)
behind layer a b like source v = behind_one layer a b source v (like source v)

-- the causes that cut the first short, and how much may be in use at both
module _ (Cuts : Cause → Type 0) (Leaves : Charge → Charge → Type 0) where
  which : (x : Bool) (r r' s s' : Reading) → Beside Cuts r r' → Beside Cuts s s' →
      Beside Cuts (elim x [ true ↦ r | false ↦ s ]) (elim x [ true ↦ r' | false ↦ s' ])
  which true r r' s s' h k = h
  which false r r' s s' h k = k

  -- Two settings: in the second a making fits that fits in the first, known names find the same templates, and called names stand for the same.
  pub record Two : Type 1 where
    pub default : Formatter
    pub supply : Charge
    pub supply' : Charge
    pub fits : Fits Cuts Leaves supply supply'
    pub templates : Templates
    pub templates' : Templates
    pub Known : Text → Type 0
    pub finds : (name : Text) → Known name → find templates name ≡ find templates' name
    pub callables : Text → Callable
    pub callables' : Text → Callable
    pub Called : Text → Type 0
    pub calls : (name : Text) → Called name → callables name ≡ callables' name

  abbrev pub first : Two → Setting
  first two =
      record { supply = two.supply; templates = two.templates; hosts = record { callables = two.callables; default_formatter = two.default } }

  abbrev pub second : Two → Setting
  second two =
      record { supply = two.supply'; templates = two.templates'; hosts = record { callables = two.callables'; default_formatter = two.default } }

  -- templates of known names include and call known names only
  abbrev pub Closed : Two → Type 0
  Closed two =
      (name : Text) → two.Known name → (template : Template) → find two.templates name ≡ some template →
      EachIncluded two.Known template.tree × EachCalledIn template.source two.Called template.tree

  module _ (two : Two) where
    abbrev setting : Setting
    setting = first two

    abbrev setting' : Setting
    setting' = second two

    -- included templates of known names read beside themselves
    abbrev pub Opens : Included → Included → Type 0
    Opens included included' =
        (name : Text) → two.Known name → (template : Template) → find two.templates name ≡ some template →
        (a b : List Visible) → Like a b → (used used' : Charge) → Leaves used used' →
        Beside Cuts (included name template a used) (included' name template b used')

    module _ (name : Text) (source : List ℕ) (included included' : Included) (opens : Opens included included') where
      abbrev pub named_or : String → Option Template → Or Fault Template
      named_or s o = elim o [ some template ↦ gives template | none ↦ fails (fault_at UnknownTemplate s.span 0) ]

      pub include_beside : (s : String) → two.Known s.text → (a b : List Visible) → Like a b → (used used' : Charge) → Leaves used used' →
          Beside Cuts
          (once_had setting name source included (named_or s (find two.templates s.text)) λ template. included s.text template a used)
          (once_had setting' name source included' (named_or s (find two.templates' s.text)) λ template. included' s.text template b used')
      include_beside s known a b like used used' l =
          subst (λ (o : Option Template).
          Beside Cuts
          (once_had setting name source included (named_or s (find two.templates s.text)) λ template. included s.text template a used)
          (once_had setting' name source included' (named_or s o) λ template. included' s.text template b used'))
          (two.finds s.text known) (by (find two.templates s.text) refl)
        where
          by : (o : Option Template) → find two.templates s.text ≡ o →
              Beside Cuts
              (once_had setting name source included (named_or s o) λ template. included s.text template a used)
              (once_had setting' name source included' (named_or s o) λ template. included' s.text template b used')
          by (some template) e = opens s.text known template e a b like used used' l
          by none e = inl refl

      -- an expression, and what is read with its value
      having_beside : (e : Expr) → EachCalled source two.Called e → (a b : List Visible) → Like a b → (used used' : Charge) → Leaves used used' →
          (next next' : Value × Charge → Reading) →
          ((v : Value) (held held' : Charge) → Leaves held held' → Beside Cuts (next (v, held)) (next' (v, held'))) →
          Beside Cuts (having setting name source included e a used next) (having setting' name source included' e b used' next')
      having_beside e called a b like used used' l next next' h =
          had_beside Cuts Leaves setting setting' name source included included' _ _ next next'
          (expr_alike Cuts Leaves two.default two.callables two.callables' two.Called two.calls two.supply two.supply' two.templates two.templates' source
          two.fits a b (like source) e called used used' l) h

      mutual
        unfolding read_stmt

        stmt_beside : (stmt : Stmt) → EachIncludedByOne two.Known stmt → EachCalledByOne source two.Called stmt →
            (a b : List Visible) → Like a b → (used used' : Charge) → Leaves used used' →
            Beside Cuts (read_stmt setting name source included stmt a used) (read_stmt setting' name source included' stmt b used')
        stmt_beside (Raw span) known called a b like used used' l = inl refl
        stmt_beside (Inline e) known called a b like used used' l =
            had_beside Cuts Leaves setting setting' name source included included' _ _ _ _
            (emit_alike Cuts Leaves two.default two.callables two.callables' two.Called two.calls two.supply two.supply' two.templates two.templates' source
            two.fits a b (like source) e called used used' l) λ written held held' l'.
            inl refl
        stmt_beside (Include other) known called a b like used used' l = include_beside other known a b like used used' l
        stmt_beside (IncludeWith other e) known called a b like used used' l =
            having_beside e called a b like used used' l _ _ λ v held held' l'.
            include_beside other known (parts_of v ∷ boundary ∷ a) (parts_of v ∷ boundary ∷ b)
            (behind (parts_of v) (boundary ∷ a) (boundary ∷ b) (behind boundary a b like)) held held' l'
        stmt_beside (If negated e body) known called a b like used used' l =
            having_beside e called.0 a b like used used' l _ _ λ v held held' l'.
            which (passes setting name source included negated v) _ _ _ _ (scope_beside body known called.1 a b like used used' l) (inl refl)
        stmt_beside (IfElse negated e body otherwise) known called a b like used used' l =
            having_beside e called.0 a b like used used' l _ _ λ v held held' l'.
            which (passes setting name source included negated v) _ _ _ _
            (scope_beside body known.0 called.1 a b like used used' l) (scope_beside otherwise known.1 called.2 a b like used used' l)
        stmt_beside (For vars e body) known called a b like used used' l =
            having_beside e called.0 a b like used used' l _ _ λ v held held' l'.
            once Cuts Leaves setting setting' name source included included' (turns source vars v (expr_span e)) _ _ λ all.
            ordered Cuts all _ _ λ turn.
            scope_beside body known called.1 (looping turn ∷ a) (looping turn ∷ b) (behind (looping turn) a b like) held held' l'
        stmt_beside (With alias e body) known called a b like used used' l =
            having_beside e called.0 a b like used used' l _ _ λ v held held' l'.
            scope_beside body known called.1 (named (text_at source alias) v ∷ a) (named (text_at source alias) v ∷ b)
            (behind (named (text_at source alias) v) a b like) held held' l'

        pub scope_beside : (scope : Scope) → EachIncluded two.Known scope → EachCalledIn source two.Called scope →
            (a b : List Visible) → Like a b → (used used' : Charge) → Leaves used used' →
            Beside Cuts (read_scope setting name source included scope a used) (read_scope setting' name source included' scope b used')
        scope_beside done known called a b like used used' l = inl refl
        scope_beside (stmt then rest) known called a b like used used' l =
            followed Cuts _ _ _ _ (stmt_beside stmt known.0 called.0 a b like used used' l) (scope_beside rest known.1 called.1 a b like used used' l)

    -- TEMPLATES

    module _ (closed : Closed two) where
      template_beside : (more : ℕ) (name : Text) (template : Template) →
          EachIncluded two.Known template.tree × EachCalledIn template.source two.Called template.tree →
          (a b : List Visible) → Like a b → (used used' : Charge) → Leaves used used' →
          Beside Cuts (read_template setting more name template a used) (read_template setting' more name template b used')
      unfolding read_template
      template_beside zero name template names a b like used used' l =
          scope_beside name template.source _ _ (λ other k t e c d m u u' n. inl refl) template.tree names.0 names.1 a b like used used' l
      template_beside (suc more) name template names a b like used used' l =
          scope_beside name template.source _ _ (λ other k t e c d m u u' n. template_beside more other t (closed other k t e) c d m u u' n)
          template.tree names.0 names.1 a b like used used' l

      -- what is opened within a template
      pub opened_beside : (more : ℕ) → Opens (opening setting more) (opening setting' more)
      opened_beside zero other k t e c d m u u' n = inl refl
      opened_beside (suc more) other k t e c d m u u' n = template_beside more other t (closed other k t e) c d m u u' n

      -- what is read at a place
      pub place_beside : (more : ℕ) (name : Text) (source : List ℕ) (scope : Scope) →
          EachIncluded two.Known scope → EachCalledIn source two.Called scope →
          (a b : List Visible) → Like a b → (used used' : Charge) → Leaves used used' →
          Beside Cuts (read_scope setting name source (opening setting more) scope a used) (read_scope setting' name source (opening setting' more) scope b used')
      place_beside more name source scope known called a b like used used' l =
          scope_beside name source (opening setting more) (opening setting' more) (opened_beside more) scope known called a b like used used' l
