-- Templates open at once.
use Rattle.std.proofs.Common.{◌≡◌, ℕ, zero, suc, ◌≤◌, List, [], ◌∷◌, sym, refl, ap, ◌∙◌, subst, inr, arith}
use mathlib.Core.Option.{none, some}
use Rattle.meaning.specs.Value.{Text}
use Rattle.meaning.specs.declared.tree.Span.{Span}
use Rattle.meaning.specs.declared.fault.Cause.{Cause}
use Rattle.meaning.specs.declared.fault.Cause.TheVariants.{TooManyOpen}
use Rattle.meaning.specs.Fault.{fault}
use Rattle.meaning.specs.Tree.{String, Scope, Raw, Include, done, ◌then◌}
use Rattle.meaning.specs.Charge.{Charge}
use Rattle.meaning.specs.Scopes.{Visible}
use Rattle.meaning.specs.Reading.{Piece, offers, Reading, ◌followed_by◌, silence, ending, offering, Template, find, Setting, faulted}
use Rattle.meaning.specs.Statements.{Included, read_stmt, read_scope, read_template}
use Rattle.laws.specs.Places.{opening, reads, start_of}
use Rattle.meaning.specs.Spans.{text_at}
use Rattle.laws.specs.Tally.{copies}
use Rattle.laws.proofs.Boundary.{templates_are_read, found_template}
use Rattle.laws.specs.Depth.{MoreTemplatesMayBeOpen, within_one_another, NoneIsOneTooMany, AsManyAreOpenAsMayBe}
use Rattle.laws.proofs.Beside.{Beside}
use Rattle.laws.proofs.Statements.{Like, Opens, scope_beside}
use Rattle.laws.proofs.Same.{AsMuch, same_supply, any_included, any_called_in, supplied_anew}
use Rattle.laws.proofs.Tally.{readings_go_on}

abbrev TooMany : Cause → Type 0
TooMany cause = cause ≡ TooManyOpen

-- nothing is read of a template that is one too many
cut_at_once : (whole : Reading) → Beside TooMany (ending (fault TooManyOpen 0)) whole
cut_at_once whole = inr (record { fault = fault TooManyOpen 0; ends = refl; because = refl; more = whole.events; begins = refl })

module _ (setting : Setting) where
  abbrev OpensMore : Included → Included → Type 0
  OpensMore first second = Opens TooMany AsMuch (supplied_anew TooMany AsMuch setting setting.supply (same_supply TooMany setting.supply)) first second

  -- in one template, by what is read of those that it includes
  one_template : (name : Text) (source : List ℕ) (first second : Included) → OpensMore first second → (scope : Scope) (visible visible' : List Visible) →
      Like visible visible' → (used used' : Charge) → used ≡ used' →
      Beside TooMany (read_scope setting name source first scope visible used) (read_scope setting name source second scope visible' used')
  one_template name source first second opens scope visible visible' like used used' e =
      scope_beside TooMany AsMuch (supplied_anew TooMany AsMuch setting setting.supply (same_supply TooMany setting.supply)) name source first second opens scope
      (any_included scope) (any_called_in source scope) visible visible' like used used' e

  none_opens : (more : ℕ) (one_too_many : Included) → OpensMore (opening setting more) (within_one_another setting more one_too_many)
  unfolding read_template
  none_opens zero one_too_many name known template found a b like used used' e = cut_at_once (one_too_many name template b used')
  none_opens (suc zero) one_too_many name known template found a b like used used' e =
      one_template name template.source _ _ (none_opens zero one_too_many) template.tree a b like used used' e
  none_opens (suc (suc more)) one_too_many name known template found a b like used used' e =
      one_template name template.source _ _ (none_opens (suc more) one_too_many) template.tree a b like used used' e

pub none_is_one_too_many : NoneIsOneTooMany
none_is_one_too_many at one_too_many scope =
    readings_go_on (one_template at.setting at.name at.source _ _ (none_opens at.setting at.more one_too_many) scope at.visible at.visible
    (λ source v. refl) at.used at.used refl)

module _ (setting : Setting) where
  more_opens : (m n : ℕ) → m ≤ n → OpensMore setting (opening setting m) (opening setting n)
  more_opens zero n h name known template found a b like used used' e = cut_at_once (opening setting n name template b used')
  more_opens (suc m) zero h name known template found a b like used used' e = absurd (omega arith)
  more_opens (suc m) (suc n) h name known template found a b like used used' e =
      let deeper : m ≤ n = omega arith in
      subst (λ (r : Reading). Beside TooMany r (read_template setting n name template b used')) (sym (templates_are_read setting m name template a used))
      (subst (λ (r : Reading). Beside TooMany (reads (start_of setting m name template a used) template.tree) r)
      (sym (templates_are_read setting n name template b used'))
      (one_template setting name template.source (opening setting m) (opening setting n) (more_opens m n deeper) template.tree a b like used used' e))

pub more_templates_may_be_open : MoreTemplatesMayBeOpen
more_templates_may_be_open at more scope h =
    readings_go_on (one_template at.setting at.name at.source _ _ (more_opens at.setting at.more more h) scope at.visible at.visible
    (λ source v. refl) at.used at.used refl)

-- A TEMPLATE THAT INCLUDES ITSELF

module _ (setting : Setting) (itself : String) (source : List ℕ) (span : Span) (visible : List Visible) (used : Charge)
    (found : find setting.templates itself.text ≡ some (record { source = source; tree = Raw span then Include itself then done })) where
  abbrev template : Template
  template = record { source = source; tree = Raw span then Include itself then done }

  abbrev piece : Piece
  piece = record { bytes = text_at source span; template = itself.text; span = none }

  -- the piece, and then what is read of the template once more
  once_more : (more : ℕ) →
      read_template setting more itself.text template visible used
      ≡ offering piece followed_by (opening setting more itself.text template visible used followed_by silence)
  unfolding read_stmt
  once_more more =
      templates_are_read setting more itself.text template visible used
      ∙ ap (λ (r : Reading). offering piece followed_by (r followed_by silence))
      (found_template (start_of setting more itself.text template visible used) itself template _ found)

  each_time : (more : ℕ) →
      read_template setting more itself.text template visible used
      ≡ record { events = copies (suc more) (offers piece ∷ []); end = faulted (fault TooManyOpen 0) }
  each_time zero = once_more zero
  each_time (suc more) =
      once_more (suc more) ∙ ap (λ (r : Reading). offering piece followed_by (r followed_by silence)) (each_time more)

pub as_many_are_open_as_may_be : AsManyAreOpenAsMayBe
as_many_are_open_as_may_be setting more itself source span visible used found = each_time setting itself source span visible used found more
