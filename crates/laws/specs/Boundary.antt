-- What an included template sees.
use Rattle.std.specs.Prelude.{◌≡◌, ℕ, suc, List, ◌∷◌, ◌++◌}
use Rattle.std.proofs.Math.Option.{some}
use Rattle.meaning.specs.Or.{gives}
use Rattle.meaning.specs.Value.{Value}
use Rattle.meaning.specs.Tree.{String, Expr, Include, IncludeWith, Scope}
use Rattle.meaning.specs.Charge.{Charge}
use Rattle.meaning.specs.Scopes.{Visible, parts_of, boundary}
use Rattle.meaning.specs.Reading.{Template, find}
use Rattle.laws.specs.Places.{Place, evaluates, reads_one, reads, holding, where_visible, inside}

-- an include reads the template of that name, in which all is visible that is visible at its place
abbrev pub IncludesSeeOut : Type 0
IncludesSeeOut =
    (at : Place) (more : ℕ) (other : String) (template : Template) →
    at.more ≡ suc more → find at.setting.templates other.text ≡ some template →
    reads_one at (Include other) ≡ reads (inside at more other.text template) template.tree

-- an include with reads it with the parts of its value visible, and behind them a boundary
abbrev pub IncludesWithSeeTheirValue : Type 0
IncludesWithSeeTheirValue =
    (at : Place) (more : ℕ) (other : String) (template : Template) (e : Expr) (v : Value) (held : Charge) →
    at.more ≡ suc more → find at.setting.templates other.text ≡ some template → evaluates at e ≡ gives (v, held) →
    reads_one at (IncludeWith other e)
    ≡ reads (holding (where_visible (inside at more other.text template) (parts_of v ∷ boundary ∷ at.visible)) held) template.tree

-- what stands behind a boundary changes nothing
abbrev pub NothingBehindABoundaryCounts : Type 0
NothingBehindABoundaryCounts =
    (at : Place) (inside behind other : List Visible) (scope : Scope) →
    reads (where_visible at (inside ++ (boundary ∷ behind))) scope ≡ reads (where_visible at (inside ++ (boundary ∷ other))) scope

-- what is visible at an include with matters for the value of its expression only
abbrev pub IncludesWithSeeNothingElse : Type 0
IncludesWithSeeNothingElse =
    (at : Place) (visible : List Visible) (other : String) (e : Expr) →
    evaluates at e ≡ evaluates (where_visible at visible) e →
    reads_one at (IncludeWith other e) ≡ reads_one (where_visible at visible) (IncludeWith other e)
