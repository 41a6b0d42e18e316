-- Readings that are the same: where what is found is the same, and the known templates.
use Rattle.std.proofs.Common.{◌≡◌, ℕ, List, refl, ap, inl, inr}
use Rattle.meaning.specs.Value.{Text}
use Rattle.meaning.specs.Tree.{Expr, Base, Filter, BaseExpr, Variable, Literal, ListOf, MapOf, Paren, Call, Args, no_args, arg, Pairs, no_pairs, pair, Stmt, Raw, Inline, Include, IncludeWith, If, IfElse, For, With, Scope, done, ◌then◌}
use Rattle.meaning.specs.declared.fault.Cause.{Cause}
use Rattle.meaning.specs.Charge.{Charge, within, ◌⊕◌}
use Rattle.meaning.specs.Reading.{Reading, Setting}
use Rattle.laws.specs.Included.{EachIncluded, EachIncludedByOne}
use Rattle.laws.specs.Scope.{OnlyWhatIsFoundCounts}
use Rattle.laws.proofs.Beside.{Beside, Fits}
use Rattle.laws.specs.Called.{EachCalled, EachCalledInBase, EachCalledInArgs, EachCalledInPairs, EachCalledByOne, EachCalledIn}
use Rattle.laws.proofs.Statements.{Two, Closed, place_beside}

-- nothing is cut short
abbrev pub Never : Cause → Type 0
Never cause = ⊥

pub uncut : {short whole : Reading} → Beside Never short whole → short ≡ whole
uncut (inl e) = e
uncut (inr cut) = absurd cut.because

-- as much is in use
abbrev pub AsMuch : Charge → Charge → Type 0
AsMuch used used' = used ≡ used'

pub same_supply : (Cuts : Cause → Type 0) (supply : Charge) → Fits Cuts AsMuch supply supply
same_supply Cuts supply used used' more e = (inl (ap (λ (c : Charge). within supply (c ⊕ more)) e), ap (λ (c : Charge). c ⊕ more) e)

-- every name
abbrev pub Any : Text → Type 0
Any name = Unit {0}

mutual
  pub any_included : (scope : Scope) → EachIncluded Any scope
  any_included done = tt
  any_included (stmt then rest) = (any_included_by_one stmt, any_included rest)

  pub any_included_by_one : (stmt : Stmt) → EachIncludedByOne Any stmt
  any_included_by_one (Raw span) = tt
  any_included_by_one (Inline e) = tt
  any_included_by_one (Include other) = tt
  any_included_by_one (IncludeWith other e) = tt
  any_included_by_one (If negated e body) = any_included body
  any_included_by_one (IfElse negated e body otherwise) = (any_included body, any_included otherwise)
  any_included_by_one (For vars e body) = any_included body
  any_included_by_one (With alias e body) = any_included body

module _ (source : List ℕ) where
  mutual
    any_called : (e : Expr) → EachCalled source Any e
    any_called (Base b) = any_called_in_base b
    any_called (Filter name whole receiver args) = (tt, any_called receiver, any_called_in_args args)

    any_called_in_base : (b : BaseExpr) → EachCalledInBase source Any b
    any_called_in_base (Variable v) = tt
    any_called_in_base (Literal span v) = tt
    any_called_in_base (ListOf span items) = any_called_in_args items
    any_called_in_base (MapOf span pairs) = any_called_in_pairs pairs
    any_called_in_base (Paren span e) = any_called e
    any_called_in_base (Call name whole args) = (tt, any_called_in_args args)

    any_called_in_args : (args : Args) → EachCalledInArgs source Any args
    any_called_in_args no_args = tt
    any_called_in_args (arg b rest) = (any_called_in_base b, any_called_in_args rest)

    any_called_in_pairs : (pairs : Pairs) → EachCalledInPairs source Any pairs
    any_called_in_pairs no_pairs = tt
    any_called_in_pairs (pair k b rest) = (any_called_in_base b, any_called_in_pairs rest)

  mutual
    any_called_by_one : (stmt : Stmt) → EachCalledByOne source Any stmt
    any_called_by_one (Raw span) = tt
    any_called_by_one (Inline e) = any_called e
    any_called_by_one (Include other) = tt
    any_called_by_one (IncludeWith other e) = any_called e
    any_called_by_one (If negated e body) = (any_called e, any_called_in body)
    any_called_by_one (IfElse negated e body otherwise) = (any_called e, any_called_in body, any_called_in otherwise)
    any_called_by_one (For vars e body) = (any_called e, any_called_in body)
    any_called_by_one (With alias e body) = (any_called e, any_called_in body)

    pub any_called_in : (scope : Scope) → EachCalledIn source Any scope
    any_called_in done = tt
    any_called_in (stmt then rest) = (any_called_by_one stmt, any_called_in rest)

-- a setting, and the same with another supply
abbrev pub supplied_anew : (Cuts : Cause → Type 0) (Leaves : Charge → Charge → Type 0) (setting : Setting) (supply' : Charge) →
    Fits Cuts Leaves setting.supply supply' → Two Cuts Leaves
supplied_anew Cuts Leaves setting supply' fits = record {
  default = setting.hosts.default_formatter;
  supply = setting.supply;
  supply' = supply';
  fits = fits;
  templates = setting.templates;
  templates' = setting.templates;
  Known = Any;
  finds = λ name known. refl;
  callables = setting.hosts.callables;
  callables' = setting.hosts.callables;
  Called = Any;
  calls = λ name called. refl;
}

pub any_closed : (Cuts : Cause → Type 0) (Leaves : Charge → Charge → Type 0) (setting : Setting) (supply' : Charge)
    (fits : Fits Cuts Leaves setting.supply supply') → Closed Cuts Leaves (supplied_anew Cuts Leaves setting supply' fits)
any_closed Cuts Leaves setting supply' fits name known template e = (any_included template.tree, any_called_in template.source template.tree)

abbrev pub itself : Setting → Two Never AsMuch
itself setting = supplied_anew Never AsMuch setting setting.supply (same_supply Never setting.supply)

pub only_what_is_found_counts : OnlyWhatIsFoundCounts
only_what_is_found_counts at other scope same =
    uncut (place_beside Never AsMuch (itself at.setting) (any_closed Never AsMuch at.setting at.setting.supply (same_supply Never at.setting.supply))
    at.more at.name at.source scope (any_included scope) (any_called_in at.source scope) at.visible other same at.used at.used refl)
