-- Renderings of engines.
use Rattle.std.proofs.Common.{◌≡◌, ℕ, ◌-◌, Bool, true, false, cond, not, ltb, [], ◌∷◌, sym, refl, ap, ◌∙◌, subst, arith, le-ltb}
use mathlib.Core.Option.{Option, none, some}
use Rattle.std.specs.Cmp.Lexicographic.{bytes_decides}
use Rattle.std.specs.Str.{bytes_eq as same_text}
use Rattle.meaning.specs.Or.{Or, fails, gives, refuse_if, ◌>>=◌, ◌>>◌}
use Rattle.meaning.specs.Value.{Value, Text}
use Rattle.meaning.specs.declared.fault.Cause.TheVariants.{UnknownName, IncludeDepthTooHigh, TooManyOpen, StoreFull}
use Rattle.meaning.specs.declared.fault.Cause.{Cause}
use Rattle.meaning.specs.Fault.{Fault, fault}
use Rattle.meaning.specs.Tree.{Stmt, Raw, Inline, Include, IncludeWith, If, IfElse, For, With, Scope, done, ◌then◌}
use Rattle.meaning.specs.Charge.{Charge, cost, within, ◌⊕◌}
use Rattle.meaning.specs.Hosts.{Hosts}
use Rattle.meaning.specs.Scopes.{Visible, asking}
use Rattle.meaning.specs.Reading.{Reading, Template, Templates, find, Setting}
use Rattle.meaning.specs.Statements.{read_template}
use Rattle.meaning.proofs.Answers.{never_gives, same_answer}
use Rattle.model.specs.Model.{Model, put, without, with_templates, rendering}
use Rattle.model.proofs.Names.{adding_replaces}
use Rattle.laws.specs.Places.{start_of, reads}
use Rattle.laws.specs.GoesOn.{GoesOn}
use Rattle.laws.specs.Included.{EachIncluded, EachIncludedByOne, Names, IsOne}
use Rattle.laws.specs.Renderings.{MoreSupplyRendersTheSame, LoadedValuesOnlyTakeRoom, HigherMaximaRenderTheSame, Unused, UnusedTemplatesChangeNothing}
use Rattle.laws.proofs.Scope.{is_same, not_same, IsFalse}
use Rattle.laws.proofs.Boundary.{templates_are_read}
use Rattle.laws.proofs.Tally.{more_room, less_used, only_the_room_left_counts}
use Rattle.laws.proofs.Depth.{more_templates_may_be_open}
use Rattle.laws.proofs.Included.{only_included_templates_count}

abbrev pub setting_of : Hosts → Model → Setting
setting_of hosts m = record { supply = m.supply; templates = m.templates; hosts = hosts }

-- what is read of a template that is found
abbrev pub read_of : Hosts → Model → (name : Text) → (depth : ℕ) → Visible → Template → Reading
read_of hosts m name depth bottom template = read_template (setting_of hosts m) (depth - 1) name template (bottom ∷ []) (cost m.loaded)

-- the rendering, by what is found and whether the maximum is too high
abbrev pub rendered : Hosts → Model → (name : Text) → (depth : ℕ) → Visible → Option Template → Bool → Or Fault Reading
rendered hosts m name depth bottom o too_high =
    (elim o [ some template ↦ gives template | none ↦ fails (fault UnknownName 0) ]) >>= λ template.
    refuse_if too_high (fault IncludeDepthTooHigh 0) >> gives (read_of hosts m name depth bottom template)

module _ (hosts : Hosts) (m : Model) (name : Text) (depth : ℕ) (bottom : Visible) where
  -- the template of which a reading was given
  pub gave_reading : (o : Option Template) (too_high : Bool) (reading : Reading) → rendered hosts m name depth bottom o too_high ≡ gives reading →
      (template : Template) × (o ≡ some template) × (too_high ≡ false) × (read_of hosts m name depth bottom template ≡ reading)
  gave_reading none too_high reading e = absurd (never_gives e)
  gave_reading (some template) true reading e = absurd (never_gives e)
  gave_reading (some template) false reading e =
      (template, refl, refl, same_answer (λ (r : Reading). read_of hosts m name depth bottom template ≡ r) e refl)

  gives_reading : (o : Option Template) (too_high : Bool) (template : Template) → o ≡ some template → too_high ≡ false →
      rendered hosts m name depth bottom o too_high ≡ gives (read_of hosts m name depth bottom template)
  gives_reading o too_high template e f =
      ap (λ (x : Option Template). rendered hosts m name depth bottom x too_high) e
      ∙ ap (λ (x : Bool). rendered hosts m name depth bottom (some template) x) f

  goes_on : (other : Model) (deeper : ℕ) (cause : Cause) (template : Template) →
      GoesOn cause (reads (start_of (setting_of hosts m) (depth - 1) name template (bottom ∷ []) (cost m.loaded)) template.tree)
      (reads (start_of (setting_of hosts other) (deeper - 1) name template (bottom ∷ []) (cost other.loaded)) template.tree) →
      GoesOn cause (read_of hosts m name depth bottom template) (read_of hosts other name deeper bottom template)
  goes_on other deeper cause template h =
      subst (λ (r : Reading). GoesOn cause r (read_of hosts other name deeper bottom template))
      (sym (templates_are_read (setting_of hosts m) (depth - 1) name template (bottom ∷ []) (cost m.loaded)))
      (subst (λ (r : Reading). GoesOn cause (reads (start_of (setting_of hosts m) (depth - 1) name template (bottom ∷ []) (cost m.loaded)) template.tree) r)
      (sym (templates_are_read (setting_of hosts other) (deeper - 1) name template (bottom ∷ []) (cost other.loaded))) h)

-- an engine with another supply and another loaded value
abbrev roomy : Model → Charge → Value → Model
roomy m supply loaded = record { supply = supply; templates = m.templates; loaded = loaded }

room_renders : (hosts : Hosts) (m : Model) (supply : Charge) (loaded : Value) (name : Text) (depth : ℕ) (bottom : Visible) (reading : Reading) →
    within (supply ⊕ cost m.loaded) (m.supply ⊕ cost loaded) ≡ true → rendering hosts m name depth bottom ≡ gives reading →
    (other : Reading) × (rendering hosts (roomy m supply loaded) name depth bottom ≡ gives other) × GoesOn StoreFull reading other
room_renders hosts m supply loaded name depth bottom reading room e =
    let (template, found, low, is) = gave_reading hosts m name depth bottom (find m.templates name) (ltb 32 depth) reading e in (
      read_of hosts (roomy m supply loaded) name depth bottom template,
      gives_reading hosts (roomy m supply loaded) name depth bottom (find m.templates name) (ltb 32 depth) template found low,
      subst (λ (r : Reading). GoesOn StoreFull r (read_of hosts (roomy m supply loaded) name depth bottom template)) is
          (goes_on hosts m name depth bottom (roomy m supply loaded) depth StoreFull template
          (only_the_room_left_counts (start_of (setting_of hosts m) (depth - 1) name template (bottom ∷ []) (cost m.loaded)) supply (cost loaded) template.tree
          room)),
    )

pub more_supply_renders_the_same : MoreSupplyRendersTheSame
more_supply_renders_the_same hosts m supply name depth bottom reading larger e =
    room_renders hosts m supply m.loaded name depth bottom reading (more_room supply m.supply (cost m.loaded) larger) e

pub loaded_values_only_take_room : LoadedValuesOnlyTakeRoom
loaded_values_only_take_room hosts m v name depth from reading cheaper e =
    room_renders hosts m m.supply v name depth (asking from) reading (less_used m.supply (cost m.loaded) (cost v) cheaper) e

pub higher_maxima_render_the_same : HigherMaximaRenderTheSame
higher_maxima_render_the_same hosts m name depth higher bottom reading up most e =
    let (template, found, low, is) = gave_reading hosts m name depth bottom (find m.templates name) (ltb 32 depth) reading e in (
      read_of hosts m name higher bottom template,
      gives_reading hosts m name higher bottom (find m.templates name) (ltb 32 higher) template found (le-ltb 32 higher most),
      subst (λ (r : Reading). GoesOn TooManyOpen r (read_of hosts m name higher bottom template)) is
          (goes_on hosts m name depth bottom m higher TooManyOpen template
          (more_templates_may_be_open (start_of (setting_of hosts m) (depth - 1) name template (bottom ∷ []) (cost m.loaded)) (higher - 1) template.tree
          (omega arith))),
    )

-- OTHER TEMPLATES

mutual
  pub each_also : (Has Also : Text → Type 0) → ((name : Text) → Has name → Also name) → (scope : Scope) → EachIncluded Has scope → EachIncluded Also scope
  each_also Has Also h done known = tt
  each_also Has Also h (stmt then rest) known = (each_by_one_also Has Also h stmt known.0, each_also Has Also h rest known.1)

  each_by_one_also : (Has Also : Text → Type 0) → ((name : Text) → Has name → Also name) →
      (stmt : Stmt) → EachIncludedByOne Has stmt → EachIncludedByOne Also stmt
  each_by_one_also Has Also h (Raw span) known = tt
  each_by_one_also Has Also h (Inline e) known = tt
  each_by_one_also Has Also h (Include other) known = h other.text known
  each_by_one_also Has Also h (IncludeWith other e) known = h other.text known
  each_by_one_also Has Also h (If negated e body) known = each_also Has Also h body known
  each_by_one_also Has Also h (IfElse negated e body otherwise) known =
      (each_also Has Also h body known.0, each_also Has Also h otherwise known.1)
  each_by_one_also Has Also h (For vars e body) known = each_also Has Also h body known
  each_by_one_also Has Also h (With alias e body) known = each_also Has Also h body known

-- a removed name takes nothing from the others
others_stay : (name other : Text) (templates : Templates) → ¬ (other ≡ name) → find templates other ≡ find (without name templates) other
others_stay name other [] differ = refl
others_stay name other ((o, old) ∷ rest) differ = by (same_text name o) refl (others_stay name other rest differ)
  where
    by : (x : Bool) → same_text name o ≡ x → find rest other ≡ find (without name rest) other →
        cond (same_text other o) (some old) (find rest other) ≡ find (cond x rest ((o, old) ∷ without name rest)) other
    by true e deeper =
        ap (λ (x : Bool). cond x (some old) (find rest other))
        (not_same other o (λ its. differ (its ∙ sym ((bytes_decides name o).0 e))))
    by false e deeper = ap (λ (found : Option Template). cond (same_text other o) (some old) found) deeper

module _ (hosts : Hosts) (m : Model) (name : Text) (unused : Unused m name) (templates : Templates)
    (finds : (other : Text) → ¬ (other ≡ name) → find m.templates other ≡ find templates other) where
  others : Names
  others other = not (same_text other name)

  is_other : (other : Text) → ¬ (other ≡ name) → IsOne others other
  unfolding others
  is_other other differ = ap not (not_same other name differ)

  no_name_of_theirs : (other : Text) → IsOne others other → ¬ (other ≡ name)
  unfolding others
  no_name_of_theirs other one e = subst IsFalse (sym (ap not (is_same other name e)) ∙ one) tt

  tree_of_others : (other : Text) (template : Template) → ¬ (other ≡ name) → find m.templates other ≡ some template →
      EachIncluded (IsOne others) template.tree
  tree_of_others other template differ found =
      each_also (λ included. ¬ (included ≡ name)) (IsOne others) is_other template.tree (unused other template differ found)

  same_read : (other : Text) (depth : ℕ) (bottom : Visible) (template : Template) → ¬ (other ≡ name) → find m.templates other ≡ some template →
      read_of hosts (with_templates m templates) other depth bottom template ≡ read_of hosts m other depth bottom template
  same_read other depth bottom template differ found =
      templates_are_read (setting_of hosts (with_templates m templates)) (depth - 1) other template (bottom ∷ []) (cost m.loaded)
      ∙ sym (only_included_templates_count (start_of (setting_of hosts m) (depth - 1) other template (bottom ∷ []) (cost m.loaded)) templates others
      template.tree (tree_of_others other template differ found)
      (λ another its one it. tree_of_others another its (no_name_of_theirs another one) it)
      (λ another one. finds another (no_name_of_theirs another one)))
      ∙ sym (templates_are_read (setting_of hosts m) (depth - 1) other template (bottom ∷ []) (cost m.loaded))

  same_rendered : (other : Text) (depth : ℕ) (bottom : Visible) → ¬ (other ≡ name) →
      rendering hosts (with_templates m templates) other depth bottom ≡ rendering hosts m other depth bottom
  same_rendered other depth bottom differ =
      ap (λ (o : Option Template). rendered hosts (with_templates m templates) other depth bottom o (ltb 32 depth)) (sym (finds other differ))
      ∙ by (find m.templates other) (ltb 32 depth) refl
    where
      by : (o : Option Template) (too_high : Bool) → find m.templates other ≡ o →
          rendered hosts (with_templates m templates) other depth bottom o too_high ≡ rendered hosts m other depth bottom o too_high
      by none too_high e = refl
      by (some template) true e = refl
      by (some template) false e = ap gives (same_read other depth bottom template differ e)

pub unused_templates_change_nothing : UnusedTemplatesChangeNothing
unused_templates_change_nothing hosts m name template other depth bottom unused differ = (
  same_rendered hosts m name unused (put name template m.templates)
      (λ another apart.
      sym (adding_replaces name another template m.templates
      ∙ ap (λ (x : Bool). cond x (some template) (find m.templates another)) (not_same another name apart)))
      other depth bottom differ,
  same_rendered hosts m name unused (without name m.templates) (λ another apart. others_stay name another m.templates apart) other depth bottom differ,
)
