-- The search through the stack of scopes, and what keeps the stack in order.
use Rattle.std.proofs.Common.{◌≡◌, ℕ, zero, suc, ◌≤◌, true, List, [], ◌∷◌, length, drop, Some, None, Ok, Err, sym, refl, ap, ◌∙◌, subst, arith, lt-ltb}
use Rattle.std.proofs.lemmas.Bool.{ltb-true}
use Rattle.std.proofs.lemmas.List.{drop_all}
use Rattle.std.specs.declared.option.Option as code_option
use Rattle.machine.specs.Machine.{visible, seen}
use Rattle.meaning.specs.Charge.{Charge}
use Rattle.meaning.specs.Fault.{Fault, fault_at}
use Rattle.meaning.specs.FaultRecords.{fault_of}
use Rattle.meaning.specs.Hosts.{ValueSource}
use Rattle.meaning.specs.Or.{Or}
use Rattle.meaning.specs.Reading.{Templates}
use Rattle.meaning.specs.Scopes.{Had, look_up}
use Rattle.meaning.specs.declared.fault.Cause.TheVariants.{NotInScope}
use Rattle.meaning.specs.declared.fault.Fault as code
use Rattle.store.specs.Cells.{below}
use Rattle.store.specs.Stores.{charged, used}
use Rattle.store.specs.declared.cell.Ref.{Ref}
use Rattle.store.specs.declared.cell.Ref.TheVariants as ref
use Rattle.store.specs.declared.memory.Store.{Store}
use Rattle.scopes.specs.Entries.{kind_in, entries_in}
use Rattle.scopes.specs.Layers.{Layered, StateFits}
use Rattle.scopes.specs.Searching.{Has, Searches, looked_up}
use Rattle.scopes.specs.declared.state.Scope.{Scope}
use Rattle.scopes.specs.declared.state.State.{State}
use Rattle.scopes.specs.declared.state.State.TheVariants as states
use Rattle.scopes.specs.declared.var.Var.{Var}
use Rattle.scopes.proofs.Finds.{has_as, has_fault}

pub low_more : (m n : ℕ) (r : Ref) → m ≤ n → below m r ≡ true → below n r ≡ true
low_more m n ref.None l k = refl
low_more m n (ref.At i) l k = lt-ltb _ _ (omega (arith, ltb-true _ _ k))

module _ (templates : Templates) (s : Store) where
  -- what fits at a height fits above it
  pub state_fits : (at above : Charge) (state : State) → at.cells ≤ above.cells → StateFits templates s at state → StateFits templates s above state
  state_fits at above states.ValueFn l f = f
  state_fits at above (states.Scope r) l f = low_more at.cells above.cells r l f
  state_fits at above (states.Var template name r) l f = (f.0, low_more at.cells above.cells r l f.1)
  state_fits at above (states.Loop loop) l f =
      record { named = f.named; low = low_more at.cells above.cells loop.iterable l f.low; kind = f.kind; within = f.within }
  state_fits at above states.Boundary l f = f

  -- each entry of the stack fits
  pub entry_fits : (above : Charge) (es : List Scope) (n : ℕ) (e : Scope) (rest : List Scope) → drop n es ≡ e ∷ rest → Layered templates s above es → StateFits templates s (used s) e.state
  entry_fits above [] zero e rest is l = cc
  entry_fits above [] (suc n) e rest is l = cc
  entry_fits above (x ∷ es) zero e rest is l =
      let same : x ≡ e = cc in
      subst (λ (y : Scope). StateFits templates s (used s) y.state) same (state_fits (charged x.floor) (used s) x.state l.0.height.cells_low l.0.fits)
  entry_fits above (x ∷ es) (suc n) e rest is l = entry_fits (charged x.floor) es n e rest is l.1

  module _ (from : ValueSource) (v : Var) where
    -- what is found among these entries
    abbrev pub found_in : List Scope → Or Fault Had
    found_in es = looked_up v (visible (entries_in templates s from es))

    pub one_more : (es : List Scope) (n : ℕ) (e : Scope) (rest : List Scope) → drop n es ≡ e ∷ rest
        → found_in (drop n es) ≡ looked_up v (seen (kind_in templates s from e.state) (visible (entries_in templates s from rest)))
    one_more es n e rest is = ap found_in is

    pub found_nowhere : (now : Store) (es : List Scope) (n : ℕ) (g : code.Fault) → now ≡ s → length es ≤ n → found_in (drop n es) ≡ found_in es → fault_of g ≡ fault_at NotInScope v.first.span 0
        → Has s now v.span (found_in es) (Err g)
    unfolding look_up
    found_nowhere now es n g same past left e =
        let nothing : found_in [] ≡ found_in es = sym (ap found_in (drop_all n es past)) ∙ left in
        subst (λ (x : Store). Has s x v.span (found_in es) (Err g)) (sym same) (has_as s s v.span (Err g) (sym nothing) (has_fault s v.span _ g e))

    module _ (es : List Scope) (n : ℕ) (e : Scope) (rest : List Scope) (is : drop n es ≡ e ∷ rest) (left : found_in (drop n es) ≡ found_in es) where
      pub found_here : (now after : Store) (o : code_option.Option Ref) (r : Ref) → now ≡ s → o ≡ Some r → Searches now after v (kind_in templates now from e.state) (Ok o) → Has s after v.span (found_in es) (Ok r)
      found_here now after o r same some_r a =
          let b = subst (λ (x : Store). Searches x after v (kind_in templates x from e.state) (Ok o)) same a in
          let d = subst (λ (p : code_option.Option Ref). Searches s after v (kind_in templates s from e.state) (Ok p)) some_r b in
          has_as s after v.span (Ok r) (sym left ∙ one_more es n e rest is) (d (visible (entries_in templates s from rest)))

      pub goes_outward : (now after : Store) (o : code_option.Option Ref) → now ≡ s → o ≡ None → Searches now after v (kind_in templates now from e.state) (Ok o) → (after ≡ s) × (found_in rest ≡ found_in es)
      goes_outward now after o same none_found a =
          let b = subst (λ (x : Store). Searches x after v (kind_in templates x from e.state) (Ok o)) same a in
          let d = subst (λ (p : code_option.Option Ref). Searches s after v (kind_in templates s from e.state) (Ok p)) none_found b in
          let f = d (visible (entries_in templates s from rest)) in
          (f.1, sym (f.0) ∙ sym (one_more es n e rest is) ∙ left)

  pub entry_fits_still : (now : Store) (es : List Scope) (n : ℕ) (e : Scope) (rest : List Scope) → now ≡ s → drop n es ≡ e ∷ rest → Layered templates s (used s) es → StateFits templates now (used now) e.state
  entry_fits_still now es n e rest same is l = subst (λ (x : Store). StateFits templates x (used x) e.state) (sym same) (entry_fits (used s) es n e rest is l)
