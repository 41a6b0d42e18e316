-- Engines that hold the same templates in another order.
use Rattle.std.proofs.Common.{◌≡◌, ℕ, suc, ◌-◌, ◌≤◌, Bool, true, false, cond, not, ltb, List, [], ◌∷◌, length, sym, refl, ap, ◌∙◌, subst, arith, ltb-false, le-ltb}
use mathlib.Core.Option.{Option, none, some}
use Rattle.std.specs.Cmp.Lexicographic.{bytes_decides}
use Rattle.std.specs.Str.{bytes_eq as same_text}
use Rattle.meaning.specs.Or.{Or, fails, gives, refuse_if, ◌>>=◌, ◌>>◌}
use Rattle.meaning.specs.Value.{Value, Text}
use Rattle.meaning.specs.declared.fault.Cause.TheVariants.{BadName, UnknownName, TooManyInstructions, TemplatesFull, StoreFull}
use Rattle.meaning.specs.Tree.{Scope}
use Rattle.meaning.specs.Fault.{Fault, fault}
use Rattle.meaning.specs.Charge.{cost, within}
use Rattle.meaning.specs.Names.{well_named}
use Rattle.meaning.specs.Hosts.{Hosts, Sink}
use Rattle.meaning.specs.Scopes.{Visible, parts_of, asking}
use Rattle.meaning.specs.Reading.{End, faulted, Reading, Template, Templates, find}
use Rattle.packing.specs.Unpacking.{unpack, unpack_value}
use Rattle.program.specs.Program.{count}
use Rattle.model.specs.Model.{Model, put, without, with_templates, with_loaded, Call, add_template, remove_template, load, render, render_from, added, removed, loaded_with, rendering, changed, rendered as after_rendering, call, run}
use Rattle.model.specs.Laws.{Distinct}
use Rattle.model.proofs.Names.{adding_replaces, removing_removes, put_distinct, without_distinct, swap}
use Rattle.laws.specs.Places.{start_of}
use Rattle.laws.specs.Included.{IsOne, EachIncluded}
use Rattle.laws.specs.Text.{sink_over}
use Rattle.laws.specs.Calls.{AddingHasNoOrder}
use Rattle.laws.proofs.Scope.{not_same, IsFalse}
use Rattle.laws.proofs.Same.{Any, any_included}
use Rattle.laws.proofs.Boundary.{templates_are_read}
use Rattle.laws.proofs.Included.{only_included_templates_count}
use Rattle.laws.proofs.Renderings.{setting_of, read_of, rendered, each_also}
use Rattle.laws.proofs.Calls.{Adds, adds}
use Rattle.laws.proofs.Truth.{IsNone}

-- HOW MANY ARE HELD

-- one more, unless there is one
abbrev one_more : {A : Type 0} → Option A → ℕ → ℕ
one_more (some a) n = n
one_more none n = suc n

-- one more, if there is one
abbrev and_one : {A : Type 0} → Option A → ℕ → ℕ
and_one (some a) n = suc n
and_one none n = n

put_length : (name : Text) (template : Template) (templates : Templates) → length (put name template templates) ≡ one_more (find templates name) (length templates)
put_length name template [] = refl
put_length name template ((other, old) ∷ rest) = by (same_text name other) (find rest name) (put_length name template rest)
  where
    by : (x : Bool) (o : Option Template) → length (put name template rest) ≡ one_more o (length rest) →
        length (cond x ((name, template) ∷ rest) ((other, old) ∷ put name template rest)) ≡ one_more (cond x (some old) o) (suc (length rest))
    by true o deeper = refl
    by false (some t) deeper = ap suc deeper
    by false none deeper = ap suc deeper

without_length : (name : Text) (templates : Templates) → length templates ≡ and_one (find templates name) (length (without name templates))
without_length name [] = refl
without_length name ((other, old) ∷ rest) = by (same_text name other) (find rest name) (without_length name rest)
  where
    by : (x : Bool) (o : Option Template) → length rest ≡ and_one o (length (without name rest)) →
        suc (length rest) ≡ and_one (cond x (some old) o) (length (cond x rest ((other, old) ∷ without name rest)))
    by true o deeper = refl
    by false (some t) deeper = ap suc deeper
    by false none deeper = ap suc deeper

-- THE SAME IN ANOTHER ORDER

pub record Alike (ts us : Templates) : Type 0 where
  pub finds : (name : Text) → find ts name ≡ find us name
  pub many : length ts ≡ length us
  pub distinct : Distinct ts
  pub distinct' : Distinct us

put_alike : (name : Text) (template : Template) (ts us : Templates) → Alike ts us → Alike (put name template ts) (put name template us)
put_alike name template ts us alike = record {
  finds = λ other.
      adding_replaces name other template ts
      ∙ ap (λ (o : Option Template). cond (same_text other name) (some template) o) (alike.finds other)
      ∙ sym (adding_replaces name other template us);
  many =
      put_length name template ts
      ∙ ap (λ (o : Option Template). one_more o (length ts)) (alike.finds name)
      ∙ ap (one_more (find us name)) alike.many
      ∙ sym (put_length name template us);
  distinct = put_distinct name template ts alike.distinct;
  distinct' = put_distinct name template us alike.distinct';
}

without_alike : (name : Text) (ts us : Templates) → Alike ts us → Alike (without name ts) (without name us)
without_alike name ts us alike = record {
  finds = λ other.
      removing_removes name other ts alike.distinct
      ∙ ap (λ (o : Option Template). cond (same_text other name) none o) (alike.finds other)
      ∙ sym (removing_removes name other us alike.distinct');
  many =
      by (find ts name) (length (without name ts)) (length (without name us))
      (sym (without_length name ts)
      ∙ alike.many
      ∙ without_length name us
      ∙ ap (λ (o : Option Template). and_one o (length (without name us))) (sym (alike.finds name)));
  distinct = without_distinct name ts alike.distinct;
  distinct' = without_distinct name us alike.distinct';
}
  where
    by : (o : Option Template) (n k : ℕ) → and_one o n ≡ and_one o k → n ≡ k
    by (some t) n k e = omega (arith, e)
    by none n k e = e

-- two names that differ, put in either order
both_alike : (name other : Text) (template one : Template) (ts : Templates) → ¬ (name ≡ other) → Distinct ts →
    Alike (put other one (put name template ts)) (put name template (put other one ts))
both_alike name other template one ts differ distinct = record {
  finds = λ x.
      adding_replaces other x one (put name template ts)
      ∙ ap (λ (o : Option Template). cond (same_text x other) (some one) o) (adding_replaces name x template ts)
      ∙ swap (same_text x other) (same_text x name) (some one) (some template) (find ts x)
      (λ is_other is_name. differ (sym ((bytes_decides x name).0 is_name) ∙ (bytes_decides x other).0 is_other))
      ∙ sym (adding_replaces name x template (put other one ts)
      ∙ ap (λ (o : Option Template). cond (same_text x name) (some template) o) (adding_replaces other x one ts));
  many =
      two_more name other template one differ
      ∙ by (find ts other) (find ts name) (length ts)
      ∙ sym (two_more other name one template (λ e. differ (sym e)));
  distinct = put_distinct other one (put name template ts) (put_distinct name template ts distinct);
  distinct' = put_distinct name template (put other one ts) (put_distinct other one ts distinct);
}
  where
    two_more : (name other : Text) (template one : Template) → ¬ (name ≡ other) →
        length (put other one (put name template ts)) ≡ one_more (find ts other) (one_more (find ts name) (length ts))
    two_more name other template one differ =
        put_length other one (put name template ts)
        ∙ ap (λ (o : Option Template). one_more o (length (put name template ts)))
        (adding_replaces name other template ts
        ∙ ap (λ (x : Bool). cond x (some template) (find ts other)) (not_same other name (λ e. differ (sym e))))
        ∙ ap (one_more (find ts other)) (put_length name template ts)

    by : (o p : Option Template) (n : ℕ) → one_more o (one_more p n) ≡ one_more p (one_more o n)
    by (some t) (some u) n = refl
    by (some t) none n = refl
    by none (some u) n = refl
    by none none n = refl

-- CALLS

-- what a call does, by what it tests
abbrev added_as : Model → (name source : List ℕ) → Scope → (too_long ill_named too_many : Bool) → Or Fault Model
added_as m name source scope too_long ill_named too_many =
    refuse_if too_long (fault TooManyInstructions (count scope))
    >> (refuse_if ill_named (fault BadName 0)
    >> (refuse_if too_many (fault TemplatesFull 0) >> gives (with_templates m (put name (record { source = source; tree = scope }) m.templates))))

abbrev removed_as : Model → (name : List ℕ) → (ill_named : Bool) → Option Template → Or Fault Model
removed_as m name ill_named o =
    refuse_if ill_named (fault BadName 0)
    >> ((elim o [ some template ↦ gives template | none ↦ fails (fault UnknownName 0) ]) >> gives (with_templates m (without name m.templates)))

-- the same is answered, and what is left is alike
abbrev BothGive : Or Fault Model → Or Fault Model → Type 0
BothGive (fails f) (fails g) = f ≡ g
BothGive (fails f) (gives n') = ⊥
BothGive (gives n) (fails g) = ⊥
BothGive (gives n) (gives n') = (n' ≡ with_templates n n'.templates) × Alike n.templates n'.templates

module _ (m : Model) (us : Templates) (alike : Alike m.templates us) where
  abbrev other : Model
  other = with_templates m us

  added_alike : (name source tree : List ℕ) → BothGive (added m name source tree) (added other name source tree)
  added_alike name source tree = by_scope (unpack source tree)
    where
      by_tests : (scope : Scope) (x y z z' : Bool) → z ≡ z' → BothGive (added_as m name source scope x y z) (added_as other name source scope x y z')
      by_tests scope true y z z' e = refl
      by_tests scope false true z z' e = refl
      by_tests scope false false true true e = refl
      by_tests scope false false true false e = absurd (subst IsFalse (sym e) tt)
      by_tests scope false false false true e = absurd (subst IsFalse e tt)
      by_tests scope false false false false e = (refl, put_alike name (record { source = source; tree = scope }) m.templates us alike)

      by_scope : (o : Or Fault Scope) →
          BothGive (o >>= λ scope. added_as m name source scope (ltb 1024 (count scope)) (not (well_named name)) (ltb 16 (length (put name (record { source = source; tree = scope }) m.templates))))
          (o >>= λ scope. added_as other name source scope (ltb 1024 (count scope)) (not (well_named name)) (ltb 16 (length (put name (record { source = source; tree = scope }) us))))
      by_scope (fails f) = refl
      by_scope (gives scope) =
          by_tests scope (ltb 1024 (count scope)) (not (well_named name)) _ _
          (ap (ltb 16) (put_alike name (record { source = source; tree = scope }) m.templates us alike).many)

  removed_alike : (name : List ℕ) → BothGive (removed m name) (removed other name)
  removed_alike name = by (not (well_named name)) (find m.templates name) (find us name) (alike.finds name)
    where
      by : (x : Bool) (o p : Option Template) → o ≡ p → BothGive (removed_as m name x o) (removed_as other name x p)
      by true o p e = refl
      by false none none e = refl
      by false none (some t) e = absurd (subst IsNone e tt)
      by false (some t) none e = absurd (subst IsNone (sym e) tt)
      by false (some t) (some u) e = (refl, without_alike name m.templates us alike)

  loaded_alike : (packed : List ℕ) → BothGive (loaded_with m packed) (loaded_with other packed)
  loaded_alike packed = by (unpack_value packed)
    where
      by_room : (v : Value) (x : Bool) →
          BothGive (refuse_if x (fault StoreFull 0) >> gives (with_loaded m v)) (refuse_if x (fault StoreFull 0) >> gives (with_loaded other v))
      by_room v true = refl
      by_room v false = (refl, alike)

      by : (o : Or Fault Value) →
          BothGive (o >>= λ v. refuse_if (not (within m.supply (cost v))) (fault StoreFull 0) >> gives (with_loaded m v))
          (o >>= λ v. refuse_if (not (within m.supply (cost v))) (fault StoreFull 0) >> gives (with_loaded other v))
      by (fails f) = refl
      by (gives v) = by_room v (not (within m.supply (cost v)))

  same_read : (hosts : Hosts) (name : Text) (depth : ℕ) (bottom : Visible) (template : Template) →
      read_of hosts m name depth bottom template ≡ read_of hosts other name depth bottom template
  same_read hosts name depth bottom template =
      templates_are_read (setting_of hosts m) (depth - 1) name template (bottom ∷ []) (cost m.loaded)
      ∙ only_included_templates_count (start_of (setting_of hosts m) (depth - 1) name template (bottom ∷ []) (cost m.loaded)) us (λ any. true)
      template.tree (each_one template.tree) (λ another its one it. each_one its.tree) (λ another one. alike.finds another)
      ∙ sym (templates_are_read (setting_of hosts other) (depth - 1) name template (bottom ∷ []) (cost m.loaded))
    where
      each_one : (scope : Scope) → EachIncluded (IsOne (λ any. true)) scope
      each_one scope = each_also Any (IsOne (λ any. true)) (λ any h. refl) scope (any_included scope)

  pub same_rendered : (hosts : Hosts) (name : Text) (depth : ℕ) (bottom : Visible) → rendering hosts m name depth bottom ≡ rendering hosts other name depth bottom
  same_rendered hosts name depth bottom =
      by (find m.templates name) (ltb 32 depth)
      ∙ ap (λ (o : Option Template). rendered hosts other name depth bottom o (ltb 32 depth)) (alike.finds name)
    where
      by : (o : Option Template) (too_high : Bool) → rendered hosts m name depth bottom o too_high ≡ rendered hosts other name depth bottom o too_high
      by none too_high = refl
      by (some template) true = refl
      by (some template) false = ap gives (same_read hosts name depth bottom template)

  module _ (sink : Sink) (s : sink.State) where
    pub record Beside (a b : End × Model × sink.State) : Type 0 where
      pub answer : a.0 ≡ b.0
      pub left : a.2 ≡ b.2
      pub is : b.1 ≡ with_templates a.1 b.1.templates
      pub still : Alike a.1.templates b.1.templates

    change_beside : (r r' : Or Fault Model) → BothGive r r' → Beside (changed sink m s r) (changed sink other s r')
    change_beside (fails f) (fails g) e = record { answer = ap faulted e; left = refl; is = refl; still = alike }
    change_beside (fails f) (gives n') e = absurd e
    change_beside (gives n) (fails g) e = absurd e
    change_beside (gives n) (gives n') e = record { answer = refl; left = refl; is = e.0; still = e.1 }

    render_beside : (r r' : Or Fault Reading) → r ≡ r' → Beside (after_rendering sink m s r) (after_rendering sink other s r')
    render_beside r r' e = subst (λ (x : Or Fault Reading). Beside (after_rendering sink m s r) (after_rendering sink other s x)) e (by r)
      where
        by : (r : Or Fault Reading) → Beside (after_rendering sink m s r) (after_rendering sink other s r)
        by (fails f) = record { answer = refl; left = refl; is = refl; still = alike }
        by (gives reading) = record { answer = refl; left = refl; is = refl; still = alike }

    pub one_call : (hosts : Hosts) (c : Call) → Beside (call sink hosts m s c) (call sink hosts other s c)
    one_call hosts (add_template name source tree) = change_beside (added m name source tree) (added other name source tree) (added_alike name source tree)
    one_call hosts (remove_template name) = change_beside (removed m name) (removed other name) (removed_alike name)
    one_call hosts (load packed) = change_beside (loaded_with m packed) (loaded_with other packed) (loaded_alike packed)
    one_call hosts (render name depth) = render_beside _ _ (same_rendered hosts name depth (parts_of m.loaded))
    one_call hosts (render_from name depth from) = render_beside _ _ (same_rendered hosts name depth (asking from))

module _ (sink : Sink) (hosts : Hosts) where
  abbrev SameAnswers : (a b : List End × Model × sink.State) → Type 0
  SameAnswers a b = (a.0 ≡ b.0) × (a.2 ≡ b.2)

  pub all_calls : (m n : Model) (s : sink.State) (calls : List Call) → n ≡ with_templates m n.templates → Alike m.templates n.templates →
      SameAnswers (run sink hosts m s calls) (run sink hosts n s calls)
  all_calls m n s [] e alike = (refl, refl)
  all_calls m n s (c ∷ calls) e alike =
      subst (λ (x : Model). SameAnswers (run sink hosts m s (c ∷ calls)) (run sink hosts x s (c ∷ calls))) (sym e)
      (by (call sink hosts m s c) (call sink hosts (with_templates m n.templates) s c) (one_call m n.templates alike sink s hosts c)
      (λ p q t. all_calls p q t calls))
    where
      by : (a b : End × Model × sink.State) → Beside m n.templates alike sink s a b →
          ((p q : Model) (t : sink.State) → q ≡ with_templates p q.templates → Alike p.templates q.templates →
          SameAnswers (run sink hosts p t calls) (run sink hosts q t calls)) →
          SameAnswers (a.0 ∷ (run sink hosts a.1 a.2 calls).0, (run sink hosts a.1 a.2 calls).1, (run sink hosts a.1 a.2 calls).2)
          (b.0 ∷ (run sink hosts b.1 b.2 calls).0, (run sink hosts b.1 b.2 calls).1, (run sink hosts b.1 b.2 calls).2)
      by a b beside deeper =
          let rest : SameAnswers (run sink hosts a.1 a.2 calls) (run sink hosts b.1 b.2 calls) =
          subst (λ (t : sink.State). SameAnswers (run sink hosts a.1 a.2 calls) (run sink hosts b.1 t calls)) beside.left
          (deeper a.1 b.1 a.2 beside.is beside.still) in (
            ap (λ (answer : End). answer ∷ (run sink hosts a.1 a.2 calls).0) beside.answer ∙ ap (λ (answers : List End). b.0 ∷ answers) rest.0,
            rest.1,
          )

-- ADDING

-- what is tested at an adding that gives
gives_added : (m : Model) (name source tree : List ℕ) (scope : Scope) → unpack source tree ≡ gives scope → ltb 1024 (count scope) ≡ false →
    not (well_named name) ≡ false → ltb 16 (length (put name (record { source = source; tree = scope }) m.templates)) ≡ false →
    added m name source tree ≡ gives (with_templates m (put name (record { source = source; tree = scope }) m.templates))
gives_added m name source tree scope unpacked few named room =
    ap (λ (o : Or Fault Scope). o >>= λ scope. added_as m name source scope (ltb 1024 (count scope)) (not (well_named name)) (ltb 16 (length (put name (record { source = source; tree = scope }) m.templates)))) unpacked
    ∙ ap (λ (x : Bool). added_as m name source scope x (not (well_named name)) (ltb 16 (length (put name (record { source = source; tree = scope }) m.templates)))) few
    ∙ ap (λ (x : Bool). added_as m name source scope false x (ltb 16 (length (put name (record { source = source; tree = scope }) m.templates)))) named
    ∙ ap (added_as m name source scope false false) room

-- there is room for the one where there is for both
grows : (name : Text) (template : Template) (ts : Templates) → length ts ≤ length (put name template ts)
grows name template ts = subst (λ (n : ℕ). length ts ≤ n) (sym (put_length name template ts)) (by (find ts name))
  where
    by : (o : Option Template) → length ts ≤ one_more o (length ts)
    by (some t) = omega arith
    by none = omega arith

pub adding_has_no_order : (State : Type 0) → AddingHasNoOrder State
adding_has_no_order State m n both name source tree other other_source other_tree sound differ e f =
    let first : Adds m n name source tree = adds m n name source tree e in
    let template : Template = record { source = source; tree = first.scope } in
    let m₁ : Model = with_templates m (put name template m.templates) in
    let second : Adds m₁ both other other_source other_tree =
    adds m₁ both other other_source other_tree (subst (λ (x : Model). added x other other_source other_tree ≡ gives both) (sym first.is) f) in
    let one : Template = record { source = other_source; tree = second.scope } in
    let n' : Model = with_templates m (put other one m.templates) in
    let both' : Model = with_templates m (put name template (put other one m.templates)) in
    let alike : Alike (put other one (put name template m.templates)) (put name template (put other one m.templates)) =
    both_alike name other template one m.templates differ sound.distinct in
    let few : length (put other one (put name template m.templates)) ≤ 16 = ltb-false 16 _ second.room in
    let few' : length (put name template (put other one m.templates)) ≤ 16 = subst (λ (k : ℕ). k ≤ 16) alike.many few in
    let smaller : length (put other one m.templates) ≤ length (put name template (put other one m.templates)) = grows name template (put other one m.templates) in
    let fewer : length (put other one m.templates) ≤ 16 = omega arith in (
      n',
      both',
      gives_added m other other_source other_tree second.scope second.unpacked second.few second.named (le-ltb 16 _ fewer),
      gives_added n' name source tree first.scope first.unpacked first.few first.named (le-ltb 16 _ few'),
      λ highest take hosts s calls.
          subst (λ (x : Model). SameAnswers (sink_over State highest take) hosts (run (sink_over State highest take) hosts x s calls) (run (sink_over State highest take) hosts both' s calls)) second.is
          (all_calls (sink_over State highest take) hosts (with_templates m (put other one (put name template m.templates))) both' s calls refl alike),
    )
