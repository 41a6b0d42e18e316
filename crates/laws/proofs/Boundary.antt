-- What an included template sees.
use Rattle.std.proofs.Common.{◌≡◌, ℕ, zero, suc, List, [], ◌∷◌, ◌++◌, refl, ap, ◌∙◌}
use mathlib.Core.Option.{Option, none, some}
use Rattle.meaning.specs.Or.{Or, fails, gives}
use Rattle.meaning.specs.Value.{Text}
use Rattle.meaning.specs.declared.fault.Cause.TheVariants.{UnknownTemplate}
use Rattle.meaning.specs.Fault.{Fault, fault_at}
use Rattle.meaning.specs.Tree.{String}
use Rattle.meaning.specs.Scopes.{Visible, parts_of, boundary, look_up}
use Rattle.meaning.specs.Reading.{Reading, Template, find}
use Rattle.meaning.specs.Statements.{once_had, template_named, read_stmt, read_template}
use Rattle.laws.specs.Places.{Place, opening, TemplatesAreRead, holding, reads, where_visible, inside}
use Rattle.laws.specs.Scope.{FindTheSame}
use Rattle.laws.specs.Boundary.{IncludesSeeOut, IncludesWithSeeTheirValue, NothingBehindABoundaryCounts, IncludesWithSeeNothingElse}
use Rattle.laws.proofs.Statements.{behind_one, include_beside, opened_beside}
use Rattle.laws.proofs.Same.{Never, AsMuch, uncut, same_supply, itself, any_closed, only_what_is_found_counts}
use Rattle.laws.proofs.Scope.{had_value}

pub templates_are_read : TemplatesAreRead
unfolding read_template
templates_are_read setting zero name template visible used = refl
templates_are_read setting (suc more) name template visible used = refl

-- where one more template may be opened
pub reads_inside : (at : Place) (more : ℕ) (name : Text) (template : Template) → at.more ≡ suc more →
    opening at.setting at.more name template at.visible at.used ≡ reads (inside at more name template) template.tree
reads_inside at more name template e =
    ap (λ (n : ℕ). opening at.setting n name template at.visible at.used) e
    ∙ templates_are_read at.setting more name template at.visible at.used

-- what is read of a template that is found
pub found_template : (at : Place) (other : String) (template : Template) (next : Template → Reading) →
    find at.setting.templates other.text ≡ some template →
    once_had at.setting at.name at.source (opening at.setting at.more) (template_named at.setting at.name at.source (opening at.setting at.more) other) next
    ≡ next template
found_template at other template next found = ap answer found
  where
    answer : Option Template → Reading
    answer o =
        once_had at.setting at.name at.source (opening at.setting at.more)
        (elim o [ some template ↦ gives template | none ↦ fails (fault_at UnknownTemplate other.span 0) ]) next

pub includes_see_out : IncludesSeeOut
unfolding read_stmt
includes_see_out at more other template deeper found =
    found_template at other template _ found
    ∙ reads_inside at more other.text template deeper

pub includes_with_see_their_value : IncludesWithSeeTheirValue
unfolding read_stmt
includes_with_see_their_value at more other template e v held deeper found gave =
    had_value at e _ v held gave
    ∙ found_template at other template _ found
    ∙ reads_inside (holding (where_visible at (parts_of v ∷ boundary ∷ at.visible)) held) more other.text template deeper

-- behind a boundary
nothing_behind : (inside behind other : List Visible) → FindTheSame (inside ++ (boundary ∷ behind)) (inside ++ (boundary ∷ other))
unfolding look_up
nothing_behind [] behind other source v = refl
nothing_behind (layer ∷ inside) behind other source v =
    behind_one layer (inside ++ (boundary ∷ behind)) (inside ++ (boundary ∷ other)) source v (nothing_behind inside behind other source v)

pub nothing_behind_a_boundary_counts : NothingBehindABoundaryCounts
nothing_behind_a_boundary_counts at inside behind other scope =
    only_what_is_found_counts (where_visible at (inside ++ (boundary ∷ behind))) (inside ++ (boundary ∷ other)) scope (nothing_behind inside behind other)

-- results that are the same are read on the same
once_same : {A : Type 0} (at : Place) (r s : Or Fault A) (next next' : A → Reading) → r ≡ s → ((a : A) → next a ≡ next' a) →
    once_had at.setting at.name at.source (opening at.setting at.more) r next
    ≡ once_had at.setting at.name at.source (opening at.setting at.more) s next'
once_same {A} at r s next next' e h =
    by r ∙ ap (λ (x : Or Fault A). once_had at.setting at.name at.source (opening at.setting at.more) x next') e
  where
    by : (x : Or Fault A) →
        once_had at.setting at.name at.source (opening at.setting at.more) x next ≡ once_had at.setting at.name at.source (opening at.setting at.more) x next'
    by (fails f) = refl
    by (gives a) = h a

pub includes_with_see_nothing_else : IncludesWithSeeNothingElse
unfolding read_stmt
includes_with_see_nothing_else at visible other e same =
    once_same at _ _ _ _ same λ w.
    uncut (include_beside Never AsMuch (itself at.setting) at.name at.source (opening at.setting at.more) (opening at.setting at.more)
    (opened_beside Never AsMuch (itself at.setting) (any_closed Never AsMuch at.setting at.setting.supply (same_supply Never at.setting.supply)) at.more)
    other tt (parts_of w.0 ∷ boundary ∷ at.visible) (parts_of w.0 ∷ boundary ∷ visible)
    (nothing_behind (parts_of w.0 ∷ []) at.visible visible) w.1 w.1 refl)
