-- Entries in a row, passed one by one.
use Rattle.std.proofs.Common.{◌≡◌, ℕ, suc, ◌+◌, ◌-◌, ◌<◌, ◌≤◌, true, false, cond, List, Some, None, sym, refl, ap, ◌∙◌, subst, arith}
use mathlib.Core.Option.{some}
use Rattle.std.specs.Str.{bytes_eq as same_text}
use Rattle.meaning.specs.Parts.{value_of}
use Rattle.meaning.specs.Value.{Value, Text, Entries, no_entries, entry}
use Rattle.meaning.specs.declared.fault.Cause.TheVariants.{Malformed}
use Rattle.packing.specs.Limits.{Before, the_key, ascends}
use Rattle.packing.specs.Reader.{read, refused, Reader}
use Rattle.packing.specs.Unpacking.{entries, text, value_within}
use Rattle.packing.proofs.Readers.{split, passed as passed_test, finish, never_read}
use Rattle.sources.specs.Outcomes.{FoundIn}
use Rattle.sources.specs.Packed.{StandEntries, Stands}
use Rattle.sources.specs.declared.packed.PackedParts.{PackedParts}
use Rattle.sources.specs.declared.packed.PackedValue.{PackedValue}

-- the first of some entries
record First (at : ℕ) (child : Reader Value) (k : ℕ) (bytes : List ℕ) (es : Entries) : Type 0 where
  key : Text
  value : Value
  others : Entries
  behind : List ℕ
  left : List ℕ
  end : List ℕ
  is : es ≡ entry key value others
  named : text at bytes ≡ read key behind
  reads : child behind ≡ read value left
  onward : entries at true child k (the_key key) left ≡ read others end

first_entry : (at : ℕ) (child : Reader Value) (m k : ℕ) (before : Before) (bytes : List ℕ) (es : Entries) (rest : List ℕ) → m ≡ suc k → entries at true child m before bytes ≡ read es rest → First at child k bytes es
unfolding entries
first_entry at child m k before bytes es rest e was = by (subst (λ n. entries at true child n before bytes ≡ read es rest) e was)
  where
    by : entries at true child (suc k) before bytes ≡ read es rest → First at child k bytes es
    by h =
        split (text at bytes) h (λ key s named e₀.
        passed_test (ascends before key) _ _ _ _ e₀ (λ _ e₁.
        split (child s) e₁ (λ v u p e₂.
        split (entries at true child k (the_key key) u) e₂ (λ ds t q e₃.
        record { key = key; value = v; others = ds; behind = s; left = u; end = t; is = finish (λ x _. x ≡ entry key v ds) e₃ refl; named = named; reads = p; onward = q }))))

-- after so many that were passed
pub record EntriesLeft (child : Reader Value) (count passed : ℕ) (bytes : List ℕ) (key : Text) (es : Entries) : Type 0 where
  pub at : ℕ
  pub before : Before
  pub others : Entries
  pub end : List ℕ
  pub reads : entries at true child (count - passed) before bytes ≡ read others end
  pub same : value_of es key ≡ value_of others key

pub none_passed : (parts : PackedParts) (key : Text) (es : Entries) → StandEntries parts es → EntriesLeft (value_within parts.levels) parts.count 0 parts.bytes.now key es
none_passed parts key es stand = record { at = stand.0; before = stand.1; others = es; end = stand.2; reads = ap (λ n. entries stand.0 true (value_within parts.levels) n stand.1 parts.bytes.now) (omega arith) ∙ stand.3; same = refl }

module _ (levels count passed : ℕ) (bytes : List ℕ) (key : Text) (es : Entries) (h : EntriesLeft (value_within levels) count passed bytes key es) where
  pub all_passed : count ≤ passed → FoundIn Stands (value_of es key) None
  unfolding entries
  all_passed many =
      let over : count - passed ≡ 0 = omega arith in
      let empty : h.others ≡ no_entries = finish (λ x _. x ≡ no_entries) (ap (λ n. entries h.at true (value_within levels) n h.before bytes) (sym over) ∙ h.reads) refl in
      subst (λ o. FoundIn Stands o None) (sym (h.same ∙ ap (λ x. value_of x key) empty)) tt

  module _ (more : passed < count) where
    -- one more is there
    first : First h.at (value_within levels) (count - (passed + 1)) bytes h.others
    first = first_entry h.at (value_within levels) (count - passed) (count - (passed + 1)) h.before bytes h.others h.end (omega arith) h.reads

    pub never_unnamed : ((at : ℕ) → refused Malformed at ≡ text at bytes) → ⊥
    never_unnamed e = never_read (e h.at ∙ first.named)

    module _ (name behind : List ℕ) (named : (at : ℕ) → read name behind ≡ text at bytes) (p : PackedValue) (e : p.bytes.now ≡ behind) (l : p.levels ≡ levels) where
      is_first : (first.key ≡ name) × (first.behind ≡ behind)
      is_first = finish (λ k s. (k ≡ name) × (s ≡ behind)) (named h.at ∙ first.named) (refl, refl)

      value_reads : value_within p.levels p.bytes.now ≡ read first.value first.left
      value_reads = (λ i. value_within (l i) (e i)) ∙ ap (value_within levels) (sym is_first.1) ∙ first.reads

      in_others : value_of es key ≡ cond (same_text key name) (some first.value) (value_of first.others key)
      in_others = h.same ∙ ap (λ x. value_of x key) first.is ∙ ap (λ (k : Text). cond (same_text key k) (some first.value) (value_of first.others key)) is_first.0

      pub found_here : same_text key name ≡ true → FoundIn Stands (value_of es key) (Some p)
      found_here same = subst (λ o. FoundIn Stands o (Some p)) (sym (in_others ∙ ap (λ b. cond b (some first.value) (value_of first.others key)) same)) (first.left, value_reads)

      pub passed_on : same_text key name ≡ false → (next : List ℕ) → ((v : Value) (rest : List ℕ) → value_within p.levels p.bytes.now ≡ read v rest → next ≡ rest) → EntriesLeft (value_within levels) count (passed + 1) next key es
      passed_on other next left = record {
        at = h.at;
        before = the_key first.key;
        others = first.others;
        end = first.end;
        reads = ap (entries h.at true (value_within levels) (count - (passed + 1)) (the_key first.key)) (left first.value first.left value_reads) ∙ first.onward;
        same = in_others ∙ ap (λ b. cond b (some first.value) (value_of first.others key)) other;
      }

      pub never_cut : ((v : Value) (rest : List ℕ) → value_within p.levels p.bytes.now ≡ read v rest → ⊥) → ⊥
      never_cut left = left first.value first.left value_reads
