-- Which templates a template includes, and that no others matter to it.
use Rattle.std.specs.Prelude.{◌≡◌, Bool, true}
use Rattle.std.proofs.Math.Option.{some}
use Rattle.meaning.specs.Value.{Text}
use Rattle.meaning.specs.Tree.{Stmt, Raw, Inline, Include, IncludeWith, If, IfElse, For, With, Scope, done, ◌then◌}
use Rattle.meaning.specs.Reading.{Template, Templates, find}
use Rattle.laws.specs.Places.{Place, reads, with_templates}

-- each name that a scope includes, however deep in it, has a property
abbrev mutual
  pub EachIncluded : (Text → Type 0) → Scope → Type 0
  EachIncluded Has done = Unit {0}
  EachIncluded Has (stmt then rest) = EachIncludedByOne Has stmt × EachIncluded Has rest

  pub EachIncludedByOne : (Text → Type 0) → Stmt → Type 0
  EachIncludedByOne Has (Raw span) = Unit {0}
  EachIncludedByOne Has (Inline e) = Unit {0}
  EachIncludedByOne Has (Include other) = Has other.text
  EachIncludedByOne Has (IncludeWith other e) = Has other.text
  EachIncludedByOne Has (If negated e body) = EachIncluded Has body
  EachIncludedByOne Has (IfElse negated e body otherwise) = EachIncluded Has body × EachIncluded Has otherwise
  EachIncludedByOne Has (For vars e body) = EachIncluded Has body
  EachIncludedByOne Has (With alias e body) = EachIncluded Has body

-- some names, as the test that says which
abbrev pub Names : Type 0
Names = Text → Bool

abbrev pub IsOne : Names → Text → Type 0
IsOne names name = names name ≡ true

-- the templates of these names include templates of these names only
abbrev pub Closed : Templates → Names → Type 0
Closed templates names =
    (name : Text) (template : Template) → IsOne names name → find templates name ≡ some template → EachIncluded (IsOne names) template.tree

-- Where some names find the same, and what is read includes only these, as their templates do: whatever stands under other names, the same is read.
abbrev pub OnlyIncludedTemplatesCount : Type 0
OnlyIncludedTemplatesCount =
    (at : Place) (templates : Templates) (names : Names) (scope : Scope) →
    EachIncluded (IsOne names) scope → Closed at.setting.templates names →
    ((name : Text) → IsOne names name → find at.setting.templates name ≡ find templates name) →
    reads at scope ≡ reads (with_templates at templates) scope
