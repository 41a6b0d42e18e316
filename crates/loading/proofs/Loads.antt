-- What loading comes to, by its measure.
use Rattle.std.proofs.Common.{◌≡◌, ℕ, true, false, List, [], ◌∷◌, Some, None, Ok, sym, refl, ap, ◌∙◌, subst, arith}
use Rattle.std.proofs.lemmas.Bool.{true≢false}
use Rattle.meaning.specs.Charge.{Charge, ◌⊕◌, free, cost, within}
use Rattle.meaning.specs.Fault.{Fault}
use Rattle.meaning.specs.Or.{Or, fails, gives}
use Rattle.meaning.specs.Value.{Value}
use Rattle.packing.specs.Reader.{Outcome, read}
use Rattle.packing.specs.Unpacking.{answer, unpack_value, value_within}
use Rattle.store.specs.Stores.{Freed, Height, supply, used}
use Rattle.store.specs.declared.cell.Ref.{Ref}
use Rattle.store.specs.declared.memory.Store.{Store}
use Rattle.store.proofs.Stores.{charge_is, cells_paid, bytes_paid, same_memory_trans}
use Rattle.values.specs.Measures.{priced}
use Rattle.loading.specs.Building.{BuildsValue}
use Rattle.loading.specs.Loading.{Loads, Holds, loaded}
use Rattle.loading.proofs.Parts.{supply_same}

-- everything can be freed
pub bottom : (s : Store) → Height s free
bottom s = record { cells_low = omega arith; bytes_low = omega arith; sound = refl }

-- what has a price was read
pub record Priced (bytes : List ℕ) (c : Charge) : Type 0 where
  pub what : Value
  pub is : unpack_value bytes ≡ gives what
  pub costs : c ≡ cost what

pub priced_as : (bytes : List ℕ) (c : Charge) → gives c ≡ priced (unpack_value bytes) → Priced bytes c
priced_as bytes c = by (unpack_value bytes) refl
  where
    by : (o : Or Fault Value) → unpack_value bytes ≡ o → gives c ≡ priced o → Priced bytes c
    by (gives v) e p = record { what = v; is = e; costs = cc }
    by (fails f) e p = cc

whole_read : (size : ℕ) (o : Outcome Value) (v : Value) → answer size o ≡ gives v → o ≡ read v []
unfolding answer
whole_read size (gives (a, [])) v e = let same : a ≡ v = cc in ap (λ (x : Value). read x []) same
whole_read size (gives (a, b ∷ s)) v e = cc
whole_read size (fails (cause, left)) v e = cc

-- a store was freed whose supply holds the value's cost
module _ (before bottom after : Store) (bytes : List ℕ) (most c : Charge) (same : most ≡ supply before) (e : gives c ≡ priced (unpack_value bytes)) (freed : Freed before bottom free) (fits : true ≡ within most c) where
  empty_under : (more : Charge) → used bottom ⊕ more ≡ more
  empty_under more = charge_is (omega (arith, cells_paid freed.at_height)) (omega (arith, bytes_paid freed.at_height))

  pub load_done : (r : Ref) (next : ℕ) → BuildsValue bottom after (value_within 16 bytes) bytes (Some (r, next)) → Loads before after (loaded (supply before) bytes) (Ok r)
  unfolding unpack_value
  load_done r next h = let told = priced_as bytes c e in by told.what told.is told.costs
    where
      by : (v : Value) → unpack_value bytes ≡ gives v → c ≡ cost v → Loads before after (loaded (supply before) bytes) (Ok r)
      by v p q =
          let was : value_within 16 bytes ≡ read v [] = whole_read _ (value_within 16 bytes) v p in
          let held : within (supply before) (cost v) ≡ true = (λ i. within (sym same i) (sym q i)) ∙ sym fits in
          let built : BuildsValue bottom after (read v []) bytes (Some (r, next)) = subst (λ (o : Outcome Value). BuildsValue bottom after o bytes (Some (r, next))) was h in
          let done : Holds before after v r = record {
            memory = same_memory_trans before bottom after freed.memory built.0.grown.over.memory;
            paid = built.0.grown.paid ∙ empty_under (cost v);
            known = built.0.known;
            means = built.0.means;
          } in
          rw (p, held) done

  pub load_fits : BuildsValue bottom after (value_within 16 bytes) bytes None → ⊥
  unfolding unpack_value
  load_fits h = let told = priced_as bytes c e in by told.what told.is told.costs
    where
      by : (v : Value) → unpack_value bytes ≡ gives v → c ≡ cost v → ⊥
      by v p q =
          let was : value_within 16 bytes ≡ read v [] = whole_read _ (value_within 16 bytes) v p in
          let held : within (supply before) (cost v) ≡ true = (λ i. within (sym same i) (sym q i)) ∙ sym fits in
          let built : within (supply bottom) (used bottom ⊕ cost v) ≡ false = subst (λ (o : Outcome Value). BuildsValue bottom after o bytes None) was h in
          let there : supply before ≡ supply bottom = supply_same before bottom freed.memory in
          true≢false (sym held ∙ (λ i. within (there i) (sym (empty_under (cost v)) i)) ∙ built)
