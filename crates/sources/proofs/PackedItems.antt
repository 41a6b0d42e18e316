-- Items in a row, passed one by one.
use Rattle.std.proofs.Common.{◌≡◌, ℕ, zero, suc, ◌+◌, ◌-◌, ◌<◌, ◌≤◌, List, Some, None, sym, refl, ap, ◌∙◌, subst, arith}
use mathlib.Core.Option.{none}
use Rattle.meaning.specs.Parts.{count_items, nth}
use Rattle.meaning.specs.Value.{Value, Items, item}
use Rattle.packing.specs.Reader.{read, Reader}
use Rattle.packing.specs.Unpacking.{items, value_within}
use Rattle.packing.proofs.Readers.{split, finish}
use Rattle.store.proofs.Lists.{nth_past}
use Rattle.sources.specs.Outcomes.{FoundIn}
use Rattle.sources.specs.Packed.{Stands}
use Rattle.sources.specs.declared.packed.PackedValue.{PackedValue}

-- the first of some items
record First (child : Reader Value) (k : ℕ) (bytes : List ℕ) (vs : Items) : Type 0 where
  value : Value
  others : Items
  left : List ℕ
  end : List ℕ
  is : vs ≡ item value others
  reads : child bytes ≡ read value left
  onward : items child k left ≡ read others end

first_item : (child : Reader Value) (m k : ℕ) (bytes : List ℕ) (vs : Items) (rest : List ℕ) → m ≡ suc k → items child m bytes ≡ read vs rest → First child k bytes vs
unfolding items
first_item child m k bytes vs rest e was = by (subst (λ n. items child n bytes ≡ read vs rest) e was)
  where
    by : items child (suc k) bytes ≡ read vs rest → First child k bytes vs
    by h =
        split (child bytes) h (λ v u p e₁.
        split (items child k u) e₁ (λ ws t q e₂.
        record { value = v; others = ws; left = u; end = t; is = finish (λ x _. x ≡ item v ws) e₂ refl; reads = p; onward = q }))

items_count : (child : Reader Value) (n : ℕ) (bytes : List ℕ) (vs : Items) (rest : List ℕ) → items child n bytes ≡ read vs rest → count_items vs ≡ n
unfolding items
items_count child zero bytes vs rest e = finish (λ x _. count_items x ≡ 0) e refl
items_count child (suc n) bytes vs rest e =
    let f = first_item child (suc n) n bytes vs rest refl e in
    ap count_items f.is ∙ ap suc (items_count child n f.left f.others f.end f.onward)

pub not_so_many : (child : Reader Value) (n number : ℕ) (bytes : List ℕ) (vs : Items) (rest : List ℕ) → items child n bytes ≡ read vs rest → n ≤ number → FoundIn Stands (nth vs number) None
not_so_many child n number bytes vs rest e h =
    let none_there : nth vs number ≡ none = nth_past vs number (omega (arith, items_count child n bytes vs rest e)) in
    subst (λ o. FoundIn Stands o None) (sym none_there) tt

-- after so many that were passed
pub record ItemsLeft (child : Reader Value) (count passed : ℕ) (bytes : List ℕ) (number : ℕ) (vs : Items) : Type 0 where
  pub others : Items
  pub end : List ℕ
  pub reads : items child (count - passed) bytes ≡ read others end
  pub same : nth vs number ≡ nth others (number - passed)

pub none_passed : (child : Reader Value) (count : ℕ) (bytes : List ℕ) (number : ℕ) (vs : Items) (rest : List ℕ) → items child count bytes ≡ read vs rest → ItemsLeft child count 0 bytes number vs
none_passed child count bytes number vs rest e = record { others = vs; end = rest; reads = ap (λ n. items child n bytes) (omega arith) ∙ e; same = ap (nth vs) (omega arith) }

module _ (levels count passed : ℕ) (bytes : List ℕ) (number : ℕ) (vs : Items) (h : ItemsLeft (value_within levels) count passed bytes number vs) (more : passed < count) where
  first : First (value_within levels) (count - (passed + 1)) bytes h.others
  first = first_item (value_within levels) (count - passed) (count - (passed + 1)) bytes h.others h.end (omega arith) h.reads

  module _ (p : PackedValue) (e : p.bytes.now ≡ bytes) (l : p.levels ≡ levels) where
    first_reads : value_within p.levels p.bytes.now ≡ read first.value first.left
    first_reads = (λ i. value_within (l i) (e i)) ∙ first.reads

    pub found_here : passed ≡ number → FoundIn Stands (nth vs number) (Some p)
    found_here at =
        let zero_left : number - passed ≡ 0 = omega arith in
        subst (λ o. FoundIn Stands o (Some p)) (sym (h.same ∙ (λ i. nth (first.is i) (zero_left i)))) (first.left, first_reads)

    pub passed_on : passed < number → (next : List ℕ) → ((v : Value) (rest : List ℕ) → value_within p.levels p.bytes.now ≡ read v rest → next ≡ rest) → ItemsLeft (value_within levels) count (passed + 1) next number vs
    passed_on before next left =
        let less : number - passed ≡ suc (number - (passed + 1)) = omega arith in record {
          others = first.others;
          end = first.end;
          reads = ap (items (value_within levels) (count - (passed + 1))) (left first.value first.left first_reads) ∙ first.onward;
          same = h.same ∙ (λ i. nth (first.is i) (less i));
        }

    pub never_cut : ((v : Value) (rest : List ℕ) → value_within p.levels p.bytes.now ≡ read v rest → ⊥) → ⊥
    never_cut left = left first.value first.left first_reads
