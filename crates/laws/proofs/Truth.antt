-- Which values are false, and what indexes and keys find.
use Rattle.std.proofs.Common.{◌≡◌, ℕ, zero, suc, ◌^◌, ◌≤◌, ◌<◌, Bool, true, false, cond, not, ◌||◌, eqb, [], ◌∷◌, pos, negsuc, sym, refl, ap, ◌∙◌, subst, arith, List, length, slice_index_or, eqb-true}
use Rattle.std.proofs.Math.Dec.{eqb-suc-zero}
use mathlib.Core.Option.{Option, none, some}
use Rattle.std.specs.Cmp.Lexicographic.{bytes_decides}
use Rattle.std.specs.Str.{bytes_eq as same_text}
use Rattle.std.specs.List.{Contains}
use Rattle.meaning.specs.declared.tree.AccessOp.{AccessOp}
use Rattle.meaning.specs.declared.tree.AccessOp.TheVariants.{Direct, Optional}
use Rattle.meaning.specs.declared.tree.Member.{Member}
use Rattle.meaning.specs.declared.fault.Cause.{Cause}
use Rattle.meaning.specs.declared.fault.Cause.TheVariants.{NoSuchKey, NoSuchIndex}
use Rattle.meaning.specs.Value.{Value, none as none_value, boolean, integer, float, string, list, map, Items, no_items, item, Entries, no_entries, entry, Text}
use Rattle.meaning.specs.Parts.{count_items, count_entries, truth, nth, value_of}
use Rattle.meaning.specs.Walk.{Walked, found, missed, failed, found_or, absent}
use Rattle.laws.specs.Truth.{false_values, OnlyTheseAreFalse, ◌before◌, StandsAt, IndexesFindTheirPart, ◌in_front_of◌, Lacks, StandsUnder, KeysFindTheirPart, OptionalNeverFaults}
use Rattle.laws.proofs.Paths.{IsFound}
use Rattle.laws.proofs.Scope.{is_same, not_same, IsFalse}

-- WHAT IS FOUND, OR NOT

-- the part that was found, or another
abbrev part_or : {X : Type 0} → Value → Walked X → Value
part_or w (found v) = v
part_or w missed = w
part_or w (failed m c d) = w

module _ (m : Member) (c : Cause) (d : ℕ) where
  -- a part that is there is found, and what is found is the part that is there
  found_some : (o : Option Value) (op : AccessOp) (v : Value) → o ≡ some v → found_or o (absent op (failed m c d)) ≡ found v
  found_some o op v e = ap (λ (x : Option Value). found_or x (absent op (failed m c d))) e

  some_found : (o : Option Value) (op : AccessOp) (v : Value) → found_or o (absent op (failed m c d)) ≡ found v → o ≡ some v
  some_found (some w) op v e = ap some (ap (part_or w) e)
  some_found none Direct v e = absurd (subst IsFound (sym e) tt)
  some_found none Optional v e = absurd (subst IsFound (sym e) tt)

  none_failed : (o : Option Value) → found_or o (failed m c d) ≡ failed m c d → o ≡ none
  none_failed (some w) e = absurd (subst IsFound e tt)
  none_failed none e = refl

  none_missed : (o : Option Value) → found_or o (absent Optional (failed m c d)) ≡ missed → o ≡ none
  none_missed (some w) e = absurd (subst IsFound e tt)
  none_missed none e = refl

abbrev pub IsNone : {A : Type 0} → Option A → Type 0
IsNone none = Unit {0}
IsNone (some a) = ⊥

-- ITEMS

nth_stands : (items : Items) (n : ℕ) (v : Value) → nth items n ≡ some v → StandsAt items n v
nth_stands no_items n v e = absurd (subst IsNone e tt)
nth_stands (item w items) zero v e = record {
  first = no_items;
  behind = items;
  whole = ap (λ (x : Value). item x items) (ap (λ (o : Option Value). elim o [ some x ↦ x | none ↦ w ]) e);
  number = refl;
}
nth_stands (item w items) (suc n) v e =
    let deeper : StandsAt items n v = nth_stands items n v e in
    record {
      first = item w deeper.first;
      behind = deeper.behind;
      whole = ap (item w) deeper.whole;
      number = ap suc deeper.number;
    }

nth_behind : (first : Items) (v : Value) (behind : Items) → nth (first before item v behind) (count_items first) ≡ some v
nth_behind no_items v behind = refl
nth_behind (item w first) v behind = nth_behind first v behind

stands_nth : (items : Items) (n : ℕ) (v : Value) → StandsAt items n v → nth items n ≡ some v
stands_nth items n v stands =
    ap (λ (x : Items). nth x n) stands.whole
    ∙ ap (nth (stands.first before item v stands.behind)) (sym stands.number)
    ∙ nth_behind stands.first v stands.behind

none_few : (items : Items) (n : ℕ) → nth items n ≡ none → count_items items ≤ n
none_few no_items n e = omega arith
none_few (item v items) zero e = absurd (subst IsNone (sym e) tt)
none_few (item v items) (suc n) e = let h : count_items items ≤ n = none_few items n e in omega arith

few_none : (items : Items) (n : ℕ) → count_items items ≤ n → nth items n ≡ none
few_none no_items n h = refl
few_none (item v items) zero h = absurd (omega arith)
few_none (item v items) (suc n) h = few_none items n (omega arith)

pub indexes_find_their_part : IndexesFindTheirPart
indexes_find_their_part m items n = record {
  there = λ op v. (
    λ e. nth_stands items n v (some_found m NoSuchIndex (count_items items) (nth items n) op v e),
    λ stands. found_some m NoSuchIndex (count_items items) (nth items n) op v (stands_nth items n v stands),
  );
  not_there = (
    λ e. none_few items n (none_failed m NoSuchIndex (count_items items) (nth items n) e),
    λ few. ap (λ (o : Option Value). found_or o (failed m NoSuchIndex (count_items items))) (few_none items n few),
  );
  missing = (
    λ e. none_few items n (none_missed m NoSuchIndex (count_items items) (nth items n) e),
    λ few. ap (λ (o : Option Value). found_or o (absent Optional (failed m NoSuchIndex (count_items items)))) (few_none items n few),
  );
}

-- ENTRIES

value_stands : (entries : Entries) (k : Text) (v : Value) → value_of entries k ≡ some v → StandsUnder entries k v
value_stands no_entries k v e = absurd (subst IsNone e tt)
value_stands (entry other w entries) k v e = by (same_text k other) refl e (value_stands entries k v)
  where
    by : (x : Bool) → same_text k other ≡ x → cond x (some w) (value_of entries k) ≡ some v →
        (value_of entries k ≡ some v → StandsUnder entries k v) → StandsUnder (entry other w entries) k v
    by true same e deeper = record {
      first = no_entries;
      behind = entries;
      whole =
          ap (λ (j : Text). entry j w entries) (sym ((bytes_decides k other).0 same))
          ∙ ap (λ (x : Value). entry k x entries) (ap (λ (o : Option Value). elim o [ some x ↦ x | none ↦ w ]) e);
      lacks = tt;
    }
    by false differ e deeper =
        let there : StandsUnder entries k v = deeper e in
        record {
          first = entry other w there.first;
          behind = there.behind;
          whole = ap (entry other w) there.whole;
          lacks = (λ its. subst IsFalse (sym differ ∙ is_same k other (sym its)) tt, there.lacks);
        }

value_behind : (first : Entries) (k : Text) (v : Value) (behind : Entries) → Lacks first k → value_of (first in_front_of entry k v behind) k ≡ some v
value_behind no_entries k v behind lacks = ap (λ (x : Bool). cond x (some v) (value_of behind k)) (is_same k k refl)
value_behind (entry other w first) k v behind lacks =
    ap (λ (x : Bool). cond x (some w) (value_of (first in_front_of entry k v behind) k)) (not_same k other (λ its. lacks.0 (sym its)))
    ∙ value_behind first k v behind lacks.1

stands_value : (entries : Entries) (k : Text) (v : Value) → StandsUnder entries k v → value_of entries k ≡ some v
stands_value all k v stands =
    ap (λ (x : Entries). value_of x k) stands.whole
    ∙ value_behind stands.first k v stands.behind stands.lacks

none_lacks : (entries : Entries) (k : Text) → value_of entries k ≡ none → Lacks entries k
none_lacks no_entries k e = tt
none_lacks (entry other w entries) k e = by (same_text k other) refl e (none_lacks entries k)
  where
    by : (x : Bool) → same_text k other ≡ x → cond x (some w) (value_of entries k) ≡ none → (value_of entries k ≡ none → Lacks entries k) →
        Lacks (entry other w entries) k
    by true same e deeper = absurd (subst IsNone (sym e) tt)
    by false differ e deeper = (λ its. subst IsFalse (sym differ ∙ is_same k other (sym its)) tt, deeper e)

lacks_none : (entries : Entries) (k : Text) → Lacks entries k → value_of entries k ≡ none
lacks_none no_entries k lacks = refl
lacks_none (entry other w entries) k lacks =
    ap (λ (x : Bool). cond x (some w) (value_of entries k)) (not_same k other (λ its. lacks.0 (sym its)))
    ∙ lacks_none entries k lacks.1

pub keys_find_their_part : KeysFindTheirPart
keys_find_their_part m entries k = record {
  there = λ op v. (
    λ e. value_stands entries k v (some_found m NoSuchKey 0 (value_of entries k) op v e),
    λ stands. found_some m NoSuchKey 0 (value_of entries k) op v (stands_value entries k v stands),
  );
  not_there = (
    λ e. none_lacks entries k (none_failed m NoSuchKey 0 (value_of entries k) e),
    λ lacks. ap (λ (o : Option Value). found_or o (failed m NoSuchKey 0)) (lacks_none entries k lacks),
  );
  missing = (
    λ e. none_lacks entries k (none_missed m NoSuchKey 0 (value_of entries k) e),
    λ lacks. ap (λ (o : Option Value). found_or o (absent Optional (failed m NoSuchKey 0))) (lacks_none entries k lacks),
  );
}

-- OPTIONAL MEMBERS

abbrev Fails : {X : Type 0} → Walked X → Type 0
Fails (found v) = ⊥
Fails missed = ⊥
Fails (failed m c d) = Unit {0}

never_fails : (o : Option Value) (m : Member) (c : Cause) (d : ℕ) → ¬ Fails (found_or o (absent Optional (failed m c d)))
never_fails (some v) m c d = λ h. h
never_fails none m c d = λ h. h

pub optional_never_faults : OptionalNeverFaults
optional_never_faults m = record {
  by_index = λ items n at cause detail e. never_fails (nth items n) m NoSuchIndex (count_items items) (subst Fails (sym e) tt);
  by_key = λ entries k at cause detail e. never_fails (value_of entries k) m NoSuchKey 0 (subst Fails (sym e) tt);
}

-- TRUTH

abbrev AllFalse : List Value → Type 0
AllFalse [] = Unit {0}
AllFalse (w ∷ ws) = (truth w ≡ false) × AllFalse ws

listed_is_false : (ws : List Value) (k : ℕ) (v : Value) → AllFalse ws → k < length ws → slice_index_or ws k v ≡ v → truth v ≡ false
listed_is_false [] k v all h e = absurd (omega arith)
listed_is_false (w ∷ ws) zero v all h e = ap truth (sym e) ∙ all.0
listed_is_false (w ∷ ws) (suc k) v all h e = listed_is_false ws k v all.1 (omega arith) e

-- a number that counts something is not 0
some_there : (n : ℕ) → ¬ (not (eqb (suc n) 0) ≡ false)
some_there n e = subst IsFalse (sym e ∙ ap not (eqb-suc-zero n)) tt

false_is_listed : (v : Value) → truth v ≡ false → Contains false_values v
false_is_listed none_value e = (0, omega arith, refl)
false_is_listed (boolean true) e = absurd (subst IsFalse (sym e) tt)
false_is_listed (boolean false) e = (1, omega arith, refl)
false_is_listed (integer (pos zero)) e = (2, omega arith, refl)
false_is_listed (integer (pos (suc n))) e = absurd (some_there n e)
false_is_listed (integer (negsuc n)) e = absurd (subst IsFalse (sym e) tt)
false_is_listed (float bits) e = by (eqb bits 0) (eqb bits (2 ^ 63)) refl refl e
  where
    by : (x y : Bool) → eqb bits 0 ≡ x → eqb bits (2 ^ 63) ≡ y → not (x || y) ≡ false → Contains false_values (float bits)
    by true y is_zero f e = (3, omega arith, ap float (sym (eqb-true bits 0 is_zero)))
    by false true f is_sign e = (4, omega arith, ap float (sym (eqb-true bits (2 ^ 63) is_sign)))
    by false false f g e = absurd (subst IsFalse (sym e) tt)
false_is_listed (string []) e = (5, omega arith, refl)
false_is_listed (string (b ∷ s)) e = absurd (subst IsFalse (sym e) tt)
false_is_listed (list no_items) e = (6, omega arith, refl)
false_is_listed (list (item v vs)) e = absurd (some_there (count_items vs) e)
false_is_listed (map no_entries) e = (7, omega arith, refl)
false_is_listed (map (entry k v es)) e = absurd (some_there (count_entries es) e)

pub only_these_are_false : OnlyTheseAreFalse
only_these_are_false v =
    (false_is_listed v, λ listed. listed_is_false false_values listed.0 v (refl, (refl, (refl, (refl, (refl, (refl, (refl, (refl, tt)))))))) listed.1 listed.2)
