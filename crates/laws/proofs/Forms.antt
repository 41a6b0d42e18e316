-- What can be written in two ways.
use Rattle.std.proofs.Common.{◌≡◌, ℕ, ◌+◌, ◌-◌, ◌≤◌, Bool, true, false, List, ◌∷◌, ◌++◌, take, drop, refl, sym, ap, ◌∙◌, append_assoc, arith, drop-drop}
use Rattle.std.proofs.Math.Seq.{take-add}
use mathlib.Core.Option.{some}
use Rattle.meaning.specs.Or.{Or, fails, gives}
use Rattle.meaning.specs.Step.{return, continue, ◌>>=◌}
use Rattle.meaning.specs.Value.{Value, boolean, Text}
use Rattle.meaning.specs.Fault.{Fault}
use Rattle.meaning.specs.declared.tree.Span.{Span}
use Rattle.meaning.specs.Spans.{base_value_span}
use Rattle.meaning.specs.Charge.{Charge, Make}
use Rattle.meaning.specs.Reading.{Reading, text}
use Rattle.meaning.specs.Expressions.{Argument, apply, read_expr, read_base, read_args, emit_call, emit}
use Rattle.meaning.specs.Statements.{once_had, offering_at, passes, read_stmt}
use Rattle.meaning.specs.Parts.{truth}
use Rattle.laws.specs.Places.{Place, opening, evaluates, reads}
use Rattle.laws.specs.Forms.{NotSwapsBranches, NoElseIsAnEmptyElse, ParensChangeNothing, FiltersAreCalls, RawTextMayBeCut}

module _ (at : Place) where
  abbrev had : {A : Type 0} → Or Fault A → (A → Reading) → Reading
  had = once_had at.setting at.name at.source (opening at.setting at.more)

  same_next : {A : Type 0} (r : Or Fault A) (next next' : A → Reading) → ((a : A) → next a ≡ next' a) → had r next ≡ had r next'
  same_next (fails f) next next' h = refl
  same_next (gives a) next next' h = h a

  swapped : (x : Bool) (r s : Reading) → ◌≡◌ {A = Reading} (elim (passes at.setting at.name at.source (opening at.setting at.more) true (boolean x)) [ true ↦ r | false ↦ s ]) (elim (passes at.setting at.name at.source (opening at.setting at.more) false (boolean x)) [ true ↦ s | false ↦ r ])
  swapped true r s = refl
  swapped false r s = refl

pub not_swaps_branches : NotSwapsBranches
unfolding read_stmt
not_swaps_branches at e body otherwise =
    same_next at (evaluates at e) _ _ λ w. swapped at (truth w.0) (reads at body) (reads at otherwise)

pub no_else_is_an_empty_else : NoElseIsAnEmptyElse
unfolding read_stmt
no_else_is_an_empty_else at negated e body = refl

pub parens_change_nothing : ParensChangeNothing
unfolding read_expr emit read_stmt
parens_change_nothing at span e = record { inside = refl; emitted = refl }

-- an argument put in front of others, and then all of them taken
put_in_front : {A : Type 0} (r : Or Fault (Value × Charge)) (rest : Make (List Argument)) (span : Span) (next : List Argument → Make A) →
    continue (continue r λ v. rest >>= λ vs. return ((v, span) ∷ vs)) next
    ≡ continue r λ v. rest >>= λ vs. next ((v, span) ∷ vs)
put_in_front (fails f) rest span next = refl
put_in_front (gives (v, held)) rest span next = by (rest held)
  where
    by : (x : Or Fault (List Argument × Charge)) →
        continue (continue x λ vs. return ((v, span) ∷ vs)) next ≡ continue x λ vs. next ((v, span) ∷ vs)
    by (fails f) = refl
    by (gives (vs, held')) = refl

pub filters_are_calls : FiltersAreCalls
unfolding read_expr emit read_stmt
filters_are_calls at name whole receiver args = record {
  inside =
      sym (put_in_front (read_base at.setting at.source at.visible receiver at.used) (read_args at.setting at.source at.visible args) (base_value_span receiver)
      (apply at.setting at.source at.visible name whole));
  emitted =
      ap (λ (r : Or Fault ((Text × Span) × Charge)). had at r λ (written, held). offering_at at.setting at.name at.source (opening at.setting at.more) written.0 (some written.1))
      (sym (put_in_front (read_base at.setting at.source at.visible receiver at.used) (read_args at.setting at.source at.visible args) (base_value_span receiver)
      (emit_call at.setting at.source at.visible name whole)));
}

-- RAW TEXT

cut_in_two : (start middle end : ℕ) (source : List ℕ) → start ≤ middle → middle ≤ end →
    take (middle - start) (drop start source) ++ take (end - middle) (drop middle source) ≡ take (end - start) (drop start source)
cut_in_two start middle end source h k =
    let first : ℕ = middle - start in
    let second : ℕ = end - middle in
    let long : end - start ≡ first + second = omega arith in
    let further : start + first ≡ middle = omega arith in
    sym (ap (λ (n : ℕ). take n (drop start source)) long
    ∙ take-add first second (drop start source)
    ∙ ap (λ (rest : List ℕ). take first (drop start source) ++ take second rest)
    (drop-drop first start source ∙ ap (λ (n : ℕ). drop n source) further))

pub raw_text_may_be_cut : RawTextMayBeCut
unfolding read_stmt
raw_text_may_be_cut at start middle end rest h k = (
  sym (append_assoc (take (middle - start) (drop start at.source)) (take (end - middle) (drop middle at.source)) (text (reads at rest).events))
      ∙ ap (λ (bytes : List ℕ). bytes ++ text (reads at rest).events) (cut_in_two start middle end at.source h k),
  refl,
)
