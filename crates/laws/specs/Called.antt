-- Which functions and formatters a template names, and that no others matter to it.
use Rattle.std.specs.Prelude.{◌≡◌, ℕ, List}
use Rattle.std.proofs.Math.Option.{some}
use Rattle.meaning.specs.Value.{Text}
use Rattle.meaning.specs.Tree.{Expr, Base, Filter, BaseExpr, Variable, Literal, ListOf, MapOf, Paren, Call, Args, no_args, arg, Pairs, no_pairs, pair, Stmt, Raw, Inline, Include, IncludeWith, If, IfElse, For, With, Scope, done, ◌then◌}
use Rattle.meaning.specs.Spans.{text_at}
use Rattle.meaning.specs.Hosts.{Callable}
use Rattle.meaning.specs.Reading.{Template, find}
use Rattle.laws.specs.Places.{Place, reads, with_callables}
use Rattle.laws.specs.Included.{Names, IsOne}

-- each name by which something is called, however deep, has a property; names are texts of the source
module _ (source : List ℕ) (Has : Text → Type 0) where
  abbrev mutual
    pub EachCalled : Expr → Type 0
    EachCalled (Base b) = EachCalledInBase b
    EachCalled (Filter name whole receiver args) = Has (text_at source name) × EachCalled receiver × EachCalledInArgs args

    pub EachCalledInBase : BaseExpr → Type 0
    EachCalledInBase (Variable v) = Unit {0}
    EachCalledInBase (Literal span v) = Unit {0}
    EachCalledInBase (ListOf span items) = EachCalledInArgs items
    EachCalledInBase (MapOf span pairs) = EachCalledInPairs pairs
    EachCalledInBase (Paren span e) = EachCalled e
    EachCalledInBase (Call name whole args) = Has (text_at source name) × EachCalledInArgs args

    pub EachCalledInArgs : Args → Type 0
    EachCalledInArgs no_args = Unit {0}
    EachCalledInArgs (arg b rest) = EachCalledInBase b × EachCalledInArgs rest

    pub EachCalledInPairs : Pairs → Type 0
    EachCalledInPairs no_pairs = Unit {0}
    EachCalledInPairs (pair key b rest) = EachCalledInBase b × EachCalledInPairs rest

  abbrev mutual
    pub EachCalledByOne : Stmt → Type 0
    EachCalledByOne (Raw span) = Unit {0}
    EachCalledByOne (Inline e) = EachCalled e
    EachCalledByOne (Include other) = Unit {0}
    EachCalledByOne (IncludeWith other e) = EachCalled e
    EachCalledByOne (If negated e body) = EachCalled e × EachCalledIn body
    EachCalledByOne (IfElse negated e body otherwise) = EachCalled e × EachCalledIn body × EachCalledIn otherwise
    EachCalledByOne (For vars e body) = EachCalled e × EachCalledIn body
    EachCalledByOne (With alias e body) = EachCalled e × EachCalledIn body

    pub EachCalledIn : Scope → Type 0
    EachCalledIn done = Unit {0}
    EachCalledIn (stmt then rest) = EachCalledByOne stmt × EachCalledIn rest

-- Where some names stand for the same, and what is read calls only these, as the templates that are held do: whatever other names stand for, the
-- same is read.
abbrev pub OnlyNamedCallablesCount : Type 0
OnlyNamedCallablesCount =
    (at : Place) (callables : Text → Callable) (names : Names) (scope : Scope) →
    EachCalledIn at.source (IsOne names) scope →
    ((name : Text) (template : Template) → find at.setting.templates name ≡ some template → EachCalledIn template.source (IsOne names) template.tree) →
    ((name : Text) → IsOne names name → at.setting.hosts.callables name ≡ callables name) →
    reads at scope ≡ reads (with_callables at callables) scope
