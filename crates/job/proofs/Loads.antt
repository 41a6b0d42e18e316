-- What a report says of loading, by what loading answers.
use Rattle.std.proofs.Common.{◌≡◌, ℕ, Bool, true, false, not, List, ◌++◌, length, Ok, Err, sym, refl, ap, ◌∙◌, subst}
use Rattle.meaning.specs.Charge.{Charge, cost, within}
use Rattle.meaning.specs.Fault.{Fault, fault}
use Rattle.meaning.specs.FaultRecords.{fault_of}
use Rattle.meaning.specs.Or.{Or, fails, gives, ◌>>=◌, ◌>>◌, refuse_if}
use Rattle.meaning.specs.Value.{Value}
use Rattle.meaning.specs.declared.fault.Cause.TheVariants.{StoreFull}
use Rattle.meaning.specs.declared.fault.Fault as code
use Rattle.packing.specs.Unpacking.{unpack_value}
use Rattle.store.specs.Stores.{Known, SameMemory, supply, used, value}
use Rattle.store.specs.declared.cell.Ref.{Ref}
use Rattle.store.specs.declared.memory.Store.{Store}
use Rattle.values.specs.Measures.{priced}
use Rattle.loading.specs.Loading.{Loads, loaded}
use Rattle.loading.proofs.Parts.{supply_same}
use Rattle.job.specs.Causes.{refused_by}
use Rattle.job.specs.Loads.{came_of_load, came_of_value, cost_words, load_words, offset_words, size_words, unpacked_words}
use Rattle.job.specs.Values.{outline_value}
use Rattle.job.specs.declared.report.Came.{Came}

-- what unpacking answers, once its cost is tested
abbrev pub tested : Charge → Or Fault Value → Or Fault Value
tested most o = o >>= λ v. refuse_if (not (within most (cost v))) (fault StoreFull 0) >> gives v

-- VALUES

-- the value was unpacked, and its cost is within the supply
record Kept (most : Charge) (o : Or Fault Value) (v : Value) : Type 0 where
  pub is : o ≡ gives v
  pub held : within most (cost v) ≡ true

kept : (most : Charge) (o : Or Fault Value) (v : Value) → tested most o ≡ gives v → Kept most o v
kept most (fails f) v e = cc
kept most (gives u) v e = by (within most (cost u)) refl
  where
    by : (b : Bool) → within most (cost u) ≡ b → Kept most (gives u) v
    by true held =
        let none : tested most (gives u) ≡ gives u = rw held in
        let same : u ≡ v = cc in
        record { is = ap (λ (w : Value). gives w) same; held = subst (λ w. within most (cost w) ≡ true) same held }
    by false held =
        let full : tested most (gives u) ≡ fails (fault StoreFull 0) = rw held in
        cc

-- what a store holds that a value was loaded into
pub record Alone (before after : Store) (packed : List ℕ) (r : Ref) : Type 0 where
  pub memory : SameMemory before after
  pub known : Known after r
  pub paid : used after ≡ cost (value after r)
  pub is : unpack_value packed ≡ gives (value after r)
  pub held : within (supply before) (cost (value after r)) ≡ true

pub alone : (before after : Store) (packed : List ℕ) (r : Ref) → Loads before after (loaded (supply before) packed) (Ok r) → Alone before after packed r
alone before after packed r = by (loaded (supply before) packed) refl
  where
    by : (o : Or Fault Value) → loaded (supply before) packed ≡ o → Loads before after o (Ok r) → Alone before after packed r
    by (fails w) e l = absurd l
    by (gives v) e l =
        let k = kept (supply before) (unpack_value packed) v e in
        let back = sym l.means in
        record {
          memory = l.memory;
          known = l.known;
          paid = l.paid ∙ ap cost back;
          is = k.is ∙ ap (λ (w : Value). gives w) back;
          held = subst (λ w. within (supply before) (cost w) ≡ true) back k.held;
        }

module _ (before after : Store) (packed : List ℕ) (r : Ref) (a : Alone before after packed r) where
  pub taken_words : size_words (length packed) ++ cost_words (supply after) (cost (value after r)) ++ outline_value 1 (value after r) ≡ load_words (supply before) packed
  taken_words =
      let same = supply_same before after a.memory in
      ap (λ s. size_words (length packed) ++ cost_words s (cost (value after r)) ++ outline_value 1 (value after r)) (sym same)
      ∙ sym (rw (a.is, a.held) refl)

  pub taken_came : Came.Taken ≡ came_of_load (supply before) packed
  taken_came = rw (a.is, a.held) refl

-- REFUSALS

pub not_loaded : (before after : Store) (packed : List ℕ) (f : code.Fault) → Loads before after (loaded (supply before) packed) (Err f) → (loaded (supply before) packed ≡ fails (fault_of f)) × (after ≡ before)
not_loaded before after packed f = by (loaded (supply before) packed) refl
  where
    by : (o : Or Fault Value) → loaded (supply before) packed ≡ o → Loads before after o (Err f) → (loaded (supply before) packed ≡ fails (fault_of f)) × (after ≡ before)
    by (gives v) e l = absurd l
    by (fails w) e l = (e ∙ ap (λ (u : Fault). fails u) (sym l.0), l.1)

module _ (most : Charge) (packed : List ℕ) (w : Fault) (refused : loaded most packed ≡ fails w) where
  -- of what has a cost
  pub full_words : (c : Charge) → gives c ≡ priced (unpack_value packed) → refused_by w.cause ++ cost_words most c ≡ load_words most packed
  full_words c = by (unpack_value packed) refused
    where
      by : (o : Or Fault Value) → tested most o ≡ fails w → gives c ≡ priced o → refused_by w.cause ++ cost_words most c ≡ unpacked_words most (length packed) o
      by (fails f) e p = cc
      by (gives v) e p = on (within most (cost v)) refl
        where
          on : (b : Bool) → within most (cost v) ≡ b → refused_by w.cause ++ cost_words most c ≡ unpacked_words most (length packed) (gives v)
          on true held = let none : tested most (gives v) ≡ gives v = rw held in cc
          on false held =
              let full : tested most (gives v) ≡ fails (fault StoreFull 0) = rw held in
              let why : w ≡ fault StoreFull 0 = cc in
              let price : c ≡ cost v = cc in
              rw held (λ i. refused_by (why i).cause ++ cost_words most (price i))

  -- and of what has none
  pub fault_words : (f : Fault) → fails f ≡ priced (unpack_value packed) → refused_by w.cause ++ offset_words w.detail ≡ load_words most packed
  fault_words f = by (unpack_value packed) refused
    where
      by : (o : Or Fault Value) → tested most o ≡ fails w → fails f ≡ priced o → refused_by w.cause ++ offset_words w.detail ≡ unpacked_words most (length packed) o
      by (gives v) e p = cc
      by (fails g) e p =
          let same : g ≡ w = cc in
          ap (λ u. refused_by u.cause ++ offset_words u.detail) (sym same)

  pub refused_came : Came.Refused ≡ came_of_load most packed
  refused_came = by (unpack_value packed) refused
    where
      by : (o : Or Fault Value) → tested most o ≡ fails w → Came.Refused ≡ came_of_value most o
      by (fails g) e = refl
      by (gives v) e = on (within most (cost v)) refl
        where
          on : (b : Bool) → within most (cost v) ≡ b → Came.Refused ≡ came_of_value most (gives v)
          on true held = let none : tested most (gives v) ≡ gives v = rw held in cc
          on false held = rw held refl
