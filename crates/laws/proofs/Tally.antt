-- What is in use.
use Rattle.std.proofs.Common.{◌≡◌, ℕ, zero, suc, ◌+◌, ◌≤◌, Bool, true, false, cond, not, ◌&&◌, leb, ◌⊎◌, List, ◌++◌, sym, refl, ap, ◌∙◌, inl, inr, arith, leb-true, le-leb}
use Rattle.std.proofs.lemmas.Bool.{and_parts}
use Rattle.meaning.specs.declared.fault.Cause.{Cause}
use Rattle.meaning.specs.declared.fault.Cause.TheVariants.{StoreFull}
use Rattle.meaning.specs.Charge.{Charge, within, ◌⊕◌}
use Rattle.meaning.specs.Reading.{Event, End, finished, Reading, ◌followed_by◌}
use Rattle.meaning.specs.Statements.{read_stmt}
use Rattle.laws.specs.Places.{reads_one, reads}
use Rattle.laws.specs.GoesOn.{GoesOn, unchanged, cut_short}
use Rattle.laws.specs.Tally.{StatementsLeaveNothing, IfsKeepNothing, WithsKeepTheirValue, times, RepeatingNeedsNoRoom, OnlyTheRoomLeftCounts}
use Rattle.laws.proofs.Beside.{Beside, Fits}
use Rattle.laws.proofs.Statements.{place_beside}
use Rattle.laws.proofs.Same.{any_included, any_called_in, supplied_anew, any_closed}
use Rattle.laws.proofs.Order.{reading_of}
use Rattle.meaning.specs.Parts.{truth}
use Rattle.laws.proofs.Scope.{had_value}

-- REPEATING

finished_first : (events : List Event) (end : End) (rest : Reading) → end ≡ finished →
    reading_of events end followed_by rest ≡ reading_of (events ++ rest.events) rest.end
finished_first events end rest e = ap (λ (x : End). reading_of events x followed_by rest) e

pub statements_leave_nothing : StatementsLeaveNothing
unfolding read_stmt
statements_leave_nothing at stmt rest e = finished_first (reads_one at stmt).events (reads_one at stmt).end (reads at rest) e

pub repeating_needs_no_room : RepeatingNeedsNoRoom
unfolding read_stmt
repeating_needs_no_room at stmt zero e = refl
repeating_needs_no_room at stmt (suc n) e =
    statements_leave_nothing at stmt (times n stmt) e
    ∙ ap (λ (r : Reading). reading_of ((reads_one at stmt).events ++ r.events) r.end) (repeating_needs_no_room at stmt n e)

-- WHAT STAYS IN USE

one_branch : (x : Bool) (r s : Reading) → ◌≡◌ {A = Reading} (elim x [ true ↦ r | false ↦ s ]) (cond x r s)
one_branch true r s = refl
one_branch false r s = refl

pub ifs_keep_nothing : IfsKeepNothing
unfolding read_stmt
ifs_keep_nothing at negated e body otherwise v held gave =
    had_value at e _ v held gave ∙ one_branch (cond negated (not (truth v)) (truth v)) (reads at body) (reads at otherwise)

pub withs_keep_their_value : WithsKeepTheirValue
unfolding read_stmt
withs_keep_their_value at alias e body v held gave = had_value at e _ v held gave

-- ROOM

-- in the second supply as much room is left, or more
abbrev LeavesAsMuch : (supply supply' : Charge) → Charge → Charge → Type 0
LeavesAsMuch supply supply' used used' = (supply.cells + used'.cells ≤ supply'.cells + used.cells) × (supply.bytes + used'.bytes ≤ supply'.bytes + used.bytes)

pub readings_go_on : {cause : Cause} {first second : Reading} → Beside (λ c. c ≡ cause) first second → GoesOn cause first second
readings_go_on (inl e) = unchanged e
readings_go_on (inr cut) = cut_short cut.fault cut.more cut.ends cut.because cut.begins

both_hold : (x y : Bool) → x ≡ true → y ≡ true → (x && y) ≡ true
both_hold x y e f = ap (λ (z : Bool). z && y) e ∙ f

pub fit_both : (supply used : Charge) → within supply used ≡ true → (used.cells ≤ supply.cells) × (used.bytes ≤ supply.bytes)
fit_both supply used e =
    let parts : (leb used.cells supply.cells ≡ true) × (leb used.bytes supply.bytes ≡ true) =
    and_parts (leb used.cells supply.cells) (leb used.bytes supply.bytes) e in
    (leb-true used.cells supply.cells parts.0, leb-true used.bytes supply.bytes parts.1)

pub both_fit : (supply used : Charge) → used.cells ≤ supply.cells → used.bytes ≤ supply.bytes → within supply used ≡ true
both_fit supply used c b =
    both_hold (leb used.cells supply.cells) (leb used.bytes supply.bytes) (le-leb used.cells supply.cells c) (le-leb used.bytes supply.bytes b)

fits_as_well : (have taken have' taken' more : ℕ) → have + taken' ≤ have' + taken → taken + more ≤ have → taken' + more ≤ have'
fits_as_well have taken have' taken' more l fits = omega arith

still_as_much : (have taken have' taken' more : ℕ) → have + taken' ≤ have' + taken → have + (taken' + more) ≤ have' + (taken + more)
still_as_much have taken have' taken' more l = omega arith

abbrev pub Full : Cause → Type 0
Full cause = cause ≡ StoreFull

more_fits : (supply supply' : Charge) → Fits Full (LeavesAsMuch supply supply') supply supply'
more_fits supply supply' used used' more l = (
  by (within supply (used ⊕ more)) refl,
  (
    still_as_much supply.cells used.cells supply'.cells used'.cells more.cells l.0,
    still_as_much supply.bytes used.bytes supply'.bytes used'.bytes more.bytes l.1,
  ),
)
  where
    by : (x : Bool) → within supply (used ⊕ more) ≡ x →
        (within supply (used ⊕ more) ≡ within supply' (used' ⊕ more)) ⊎ ((within supply (used ⊕ more) ≡ false) × Full StoreFull)
    by true e =
        let fits : (used.cells + more.cells ≤ supply.cells) × (used.bytes + more.bytes ≤ supply.bytes) = fit_both supply (used ⊕ more) e in
        inl (e ∙ sym (both_fit supply' (used' ⊕ more)
        (fits_as_well supply.cells used.cells supply'.cells used'.cells more.cells l.0 fits.0)
        (fits_as_well supply.bytes used.bytes supply'.bytes used'.bytes more.bytes l.1 fits.1)))
    by false e = inr (e, refl)

pub only_the_room_left_counts : OnlyTheRoomLeftCounts
only_the_room_left_counts at supply used scope e =
    readings_go_on (place_beside Full (LeavesAsMuch at.setting.supply supply)
    (supplied_anew Full (LeavesAsMuch at.setting.supply supply) at.setting supply (more_fits at.setting.supply supply))
    (any_closed Full (LeavesAsMuch at.setting.supply supply) at.setting supply (more_fits at.setting.supply supply))
    at.more at.name at.source scope (any_included scope) (any_called_in at.source scope) at.visible at.visible (λ source v. refl) at.used used
    (fit_both (supply ⊕ at.used) (at.setting.supply ⊕ used) e))

-- a larger supply leaves more room
pub more_room : (supply small used : Charge) → within supply small ≡ true → within (supply ⊕ used) (small ⊕ used) ≡ true
more_room supply small used e =
    let larger : (small.cells ≤ supply.cells) × (small.bytes ≤ supply.bytes) = fit_both supply small e in
    both_fit (supply ⊕ used) (small ⊕ used) (more_on_both small.cells supply.cells used.cells larger.0)
    (more_on_both small.bytes supply.bytes used.bytes larger.1)
  where
    more_on_both : (a b n : ℕ) → a ≤ b → a + n ≤ b + n
    more_on_both a b n h = omega arith

-- and so does less in use
pub less_used : (supply used less : Charge) → within used less ≡ true → within (supply ⊕ used) (supply ⊕ less) ≡ true
less_used supply used less e =
    let fits : (less.cells ≤ used.cells) × (less.bytes ≤ used.bytes) = fit_both used less e in
    both_fit (supply ⊕ used) (supply ⊕ less) (more_on_both less.cells used.cells supply.cells fits.0)
    (more_on_both less.bytes used.bytes supply.bytes fits.1)
  where
    more_on_both : (a b n : ℕ) → a ≤ b → n + a ≤ n + b
    more_on_both a b n h = omega arith
