-- What can be written in two ways.
use Rattle.std.specs.Prelude.{◌≡◌, ℕ, ◌≤◌, Bool, true, false}
use Rattle.meaning.specs.declared.tree.Span.{Span}
use Rattle.meaning.specs.Tree.{Expr, Base, Filter, BaseExpr, Paren, Call, Args, arg, Raw, Inline, If, IfElse, Scope, done, ◌then◌}
use Rattle.meaning.specs.Reading.{Reading, text}
use Rattle.laws.specs.Places.{Place, evaluates, reads_one, reads}

-- `not` swaps the branches of an if
abbrev pub NotSwapsBranches : Type 0
NotSwapsBranches =
    (at : Place) (e : Expr) (body otherwise : Scope) → reads_one at (IfElse true e body otherwise) ≡ reads_one at (IfElse false e otherwise body)

-- an if without an else is one with an empty else
abbrev pub NoElseIsAnEmptyElse : Type 0
NoElseIsAnEmptyElse = (at : Place) (negated : Bool) (e : Expr) (body : Scope) → reads_one at (If negated e body) ≡ reads_one at (IfElse negated e body done)

-- two expressions have the same value, cost and faults, and also where they are emitted
pub record Interchangeable (at : Place) (e f : Expr) : Type 0 where
  pub inside : evaluates at e ≡ evaluates at f
  pub emitted : reads_one at (Inline e) ≡ reads_one at (Inline f)

-- parens are as good as what is in them
abbrev pub ParensChangeNothing : Type 0
ParensChangeNothing = (at : Place) (span : Span) (e : Expr) → Interchangeable at (Base (Paren span e)) e

-- a filter is a call whose first argument is the receiver
abbrev pub FiltersAreCalls : Type 0
FiltersAreCalls =
    (at : Place) (name whole : Span) (receiver : BaseExpr) (args : Args) →
    Interchangeable at (Filter name whole (Base receiver) args) (Base (Call name whole (arg receiver args)))

-- raw text may be cut in two: the joined pieces and the end are the same
abbrev pub RawTextMayBeCut : Type 0
RawTextMayBeCut =
    (at : Place) (start middle end : ℕ) (rest : Scope) → start ≤ middle → middle ≤ end →
    let whole : Reading = reads at (Raw (record { start = start; end = end }) then rest) in
    let in_two : Reading = reads at (Raw (record { start = start; end = middle }) then Raw (record { start = middle; end = end }) then rest) in
    (text in_two.events ≡ text whole.events) × (in_two.end ≡ whole.end)
