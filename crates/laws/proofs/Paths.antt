-- Walks, and parts of lists and maps.
use Rattle.std.proofs.Common.{◌≡◌, ℕ, zero, suc, Bool, true, false, cond, [], ◌∷◌, ◌++◌, sym, refl, ap, ◌∙◌, subst}
use Rattle.std.proofs.Math.Dec.{eqb-suc-zero, eqb-zero-suc, eqb-suc-suc}
use mathlib.Core.Option.{Option, none, some}
use Rattle.std.specs.Cmp.Lexicographic.{bytes_decides}
use Rattle.std.specs.Str.{bytes_eq as same_text}
use Rattle.meaning.specs.Value.{Value, none as none_value, boolean, integer, float, string, list, map, no_items, item, no_entries, entry}
use Rattle.meaning.specs.declared.tree.AccessOp.TheVariants.{Direct, Optional}
use Rattle.meaning.specs.declared.tree.Member.{Member}
use Rattle.meaning.specs.Bytes.{precedes}
use Rattle.meaning.specs.declared.fault.Cause.{Cause}
use Rattle.meaning.specs.Parts.{count_items, nth, value_of, insert}
use Rattle.meaning.specs.Walk.{Wanted, index, key, Walked, found, missed, failed, found_or, part_at, part, walk}
use Rattle.meaning.specs.Scopes.{ask}
use Rattle.laws.specs.Paths.{onward, PathsAreWalkedInOrder, OptionalMattersForTheAbsent, InsertingReplaces, AppendingComesLast}
use Rattle.model.proofs.Names.{swap, again}
use Rattle.laws.proofs.Scope.{is_same, IsFalse}

-- from what the first member finds
pub paths_are_walked_in_order : PathsAreWalkedInOrder
paths_are_walked_in_order source v [] further = refl
paths_are_walked_in_order source v (m ∷ first) further =
    by (part (ask source) v m) (λ w. paths_are_walked_in_order source w first further)
  where
    by : (result : Walked Member) → ((w : Value) → walk (ask source) w (first ++ further) ≡ onward source (walk (ask source) w first) further) →
        ◌≡◌ {A = Walked Member}
        (elim result [ found w ↦ walk (ask source) w (first ++ further) | missed ↦ missed | failed y c d ↦ failed y c d ])
        (onward source (elim result [ found w ↦ walk (ask source) w first | missed ↦ missed | failed y c d ↦ failed y c d ]) further)
    by (found w) h = h w
    by missed h = refl
    by (failed y c d) h = refl

-- OPTIONAL MEMBERS

abbrev pub IsFound : {X : Type 0} → Walked X → Type 0
IsFound (found v) = Unit {0}
IsFound missed = ⊥
IsFound (failed m c d) = ⊥

abbrev IsMissed : Walked Member → Type 0
IsMissed (found v) = ⊥
IsMissed missed = Unit {0}
IsMissed (failed m c d) = ⊥

-- what a direct and an optional member find
pub record Like (direct optional : Walked Member) : Type 0 where
  pub finds : (v : Value) → direct ≡ found v → optional ≡ found v
  pub no_other : (v : Value) → optional ≡ found v → direct ≡ found v
  pub never_misses : ¬ (direct ≡ missed)

there_or_not : (o : Option Value) (m : Member) (c : Cause) (d : ℕ) → Like (found_or o (failed m c d)) (found_or o missed)
there_or_not (some w) m c d = record { finds = λ v e. e; no_other = λ v e. e; never_misses = λ e. subst IsFound e tt }
there_or_not none m c d = record {
  finds = λ v e. absurd (subst IsFound (sym e) tt);
  no_other = λ v e. absurd (subst IsFound (sym e) tt);
  never_misses = λ e. subst IsMissed (sym e) tt;
}

wrong : (m : Member) (c : Cause) (d : ℕ) → Like (failed m c d) (failed m c d)
wrong m c d = record { finds = λ v e. e; no_other = λ v e. e; never_misses = λ e. subst IsMissed (sym e) tt }

alike : (m : Member) (v : Value) (wanted : Wanted) → Like (part_at m Direct v wanted) (part_at m Optional v wanted)
alike m none_value (index n) = wrong m _ _
alike m (boolean b) (index n) = wrong m _ _
alike m (integer i) (index n) = wrong m _ _
alike m (float bits) (index n) = wrong m _ _
alike m (string s) (index n) = wrong m _ _
alike m (list xs) (index n) = there_or_not (nth xs n) m _ _
alike m (map es) (index n) = wrong m _ _
alike m none_value (key k) = wrong m _ _
alike m (boolean b) (key k) = wrong m _ _
alike m (integer i) (key k) = wrong m _ _
alike m (float bits) (key k) = wrong m _ _
alike m (string s) (key k) = wrong m _ _
alike m (list xs) (key k) = wrong m _ _
alike m (map es) (key k) = there_or_not (value_of es k) m _ _

pub optional_matters_for_the_absent : OptionalMattersForTheAbsent
optional_matters_for_the_absent m v wanted =
    let h : Like (part_at m Direct v wanted) (part_at m Optional v wanted) = alike m v wanted in
    record { finds = h.finds; no_other = h.no_other; never_misses = h.never_misses }

-- PARTS

pub appending_comes_last : AppendingComesLast
appending_comes_last no_items v zero = refl
appending_comes_last no_items v (suc n) = ap (λ (x : Bool). cond x (some v) none) (sym (eqb-suc-zero n))
appending_comes_last (item w items) v zero = ap (λ (x : Bool). cond x (some v) (some w)) (sym (eqb-zero-suc (count_items items)))
appending_comes_last (item w items) v (suc n) =
    appending_comes_last items v n
    ∙ ap (λ (x : Bool). cond x (some v) (nth items n)) (sym (eqb-suc-suc n (count_items items)))

-- by how the key compares with the first entry's
pub inserting_replaces : InsertingReplaces
inserting_replaces new other v no_entries = refl
inserting_replaces new other v (entry k w entries) = by (same_text new k) (precedes new k) refl (inserting_replaces new other v entries)
  where
    by : (x y : Bool) → same_text new k ≡ x →
        value_of (insert new v entries) other ≡ cond (same_text other new) (some v) (value_of entries other) →
        value_of (cond x (entry new v entries) (cond y (entry new v (entry k w entries)) (entry k w (insert new v entries)))) other
        ≡ cond (same_text other new) (some v) (cond (same_text other k) (some w) (value_of entries other))
    by true y e deeper =
        sym (again (same_text other new) (same_text other k) (some v) (some w) (value_of entries other)
        (ap (same_text other) ((bytes_decides new k).0 e)))
    by false true e deeper = refl
    by false false e deeper =
        ap (λ (o : Option Value). cond (same_text other k) (some w) o) deeper
        ∙ swap (same_text other k) (same_text other new) (some w) (some v) (value_of entries other)
        (λ is_k is_key.
        subst IsFalse (sym e ∙ is_same new k (sym ((bytes_decides other new).0 is_key) ∙ (bytes_decides other k).0 is_k)) tt)
