-- How many templates may be open at once, and what that changes.
use Rattle.std.specs.Prelude.{◌≡◌, ℕ, zero, suc, ◌≤◌, List, [], ◌∷◌}
use Rattle.std.proofs.Math.Option.{none, some}
use Rattle.meaning.specs.declared.tree.Span.{Span}
use Rattle.meaning.specs.declared.fault.Cause.TheVariants.{TooManyOpen}
use Rattle.meaning.specs.Fault.{fault}
use Rattle.meaning.specs.Tree.{String, Scope, Raw, Include, done, ◌then◌}
use Rattle.meaning.specs.Spans.{text_at}
use Rattle.meaning.specs.Charge.{Charge}
use Rattle.meaning.specs.Scopes.{Visible}
use Rattle.meaning.specs.Reading.{offers, faulted, Template, find, Setting}
use Rattle.meaning.specs.Statements.{Included, read_scope, read_template}
use Rattle.laws.specs.Places.{Place, reads, with_more}
use Rattle.laws.specs.GoesOn.{GoesOn}
use Rattle.laws.specs.Tally.{copies}

-- where more templates may be opened, the same is read, unless it ends here with one too many
abbrev pub MoreTemplatesMayBeOpen : Type 0
MoreTemplatesMayBeOpen =
    (at : Place) (more : ℕ) (scope : Scope) →
    at.more ≤ more → GoesOn TooManyOpen (reads at scope) (reads (with_more at more) scope)

-- how templates are read within one another, so many, where something else says how one more is read
abbrev pub within_one_another : Setting → ℕ → (one_too_many : Included) → Included
within_one_another setting zero one_too_many = one_too_many
within_one_another setting (suc more) one_too_many = λ name template visible used.
    read_scope setting name template.source (within_one_another setting more one_too_many) template.tree visible used

-- However one too many would be read, the same is read, unless it ends with one too many: no more than so many are ever open.
abbrev pub NoneIsOneTooMany : Type 0
NoneIsOneTooMany =
    (at : Place) (one_too_many : Included) (scope : Scope) →
    GoesOn TooManyOpen (reads at scope)
    (read_scope at.setting at.name at.source (within_one_another at.setting at.more one_too_many) scope at.visible at.used)

-- A template that offers a text and then includes itself: it offers the text once for each that may be open, and ends with one too many.
abbrev pub AsManyAreOpenAsMayBe : Type 0
AsManyAreOpenAsMayBe =
    (setting : Setting) (more : ℕ) (itself : String) (source : List ℕ) (span : Span) (visible : List Visible) (used : Charge) →
    let template : Template = record { source = source; tree = Raw span then Include itself then done } in
    find setting.templates itself.text ≡ some template →
    read_template setting more itself.text template visible used
    ≡ record {
      events = copies (suc more) (offers (record { bytes = text_at source span; template = itself.text; span = none }) ∷ []);
      end = faulted (fault TooManyOpen 0);
    }
