-- Entries that were read go into a map one behind another, since their keys ascend.
use Rattle.std.proofs.Common.{◌≡◌, ℕ, zero, suc, true, List, sym, refl, ap, ◌∙◌}
use Rattle.meaning.specs.Value.{Value, Entries, Text, no_entries, entry, map}
use Rattle.packing.specs.Limits.{Before, no_key, the_key, ascends}
use Rattle.packing.specs.Reader.{read, Reader}
use Rattle.packing.specs.Unpacking.{entries, text}
use Rattle.packing.proofs.Readers.{split, passed, finish}
use Rattle.store.specs.Values.{above_all}
use Rattle.store.proofs.Maps.{behind_all, insert_last, above_all_behind}
use Rattle.loading.specs.Building.{all_inserted}

joined : Entries → Entries → Entries
joined no_entries es = es
joined (entry l w ds) es = entry l w (joined ds es)

joined_behind : (ds : Entries) (k : Text) (v : Value) (es : Entries) → joined (behind_all ds k v) es ≡ joined ds (entry k v es)
unfolding joined
joined_behind no_entries k v es = refl
joined_behind (entry l w ds) k v es = ap (entry l w) (joined_behind ds k v es)

joined_none : (ds : Entries) → joined ds no_entries ≡ ds
unfolding joined
joined_none no_entries = refl
joined_none (entry l w ds) = ap (entry l w) (joined_none ds)

-- the keys of what was read after a key
Rising : Before → Entries → Type 0
Rising before no_entries = Unit {0}
Rising before (entry k v es) = (ascends before k ≡ true) × Rising (the_key k) es

inserted_onto : (ds : Entries) (before : Before) (es : Entries) → ((k : Text) → ascends before k ≡ true → above_all k ds ≡ true) → Rising before es → all_inserted (map ds) es ≡ map (joined ds es)
unfolding Rising joined
inserted_onto ds before no_entries low h = ap map (sym (joined_none ds))
inserted_onto ds before (entry k v es) low h =
    let under = low k h.0 in
    rw (insert_last ds k v under)
    (inserted_onto (behind_all ds k v) (the_key k) es (λ l rises. above_all_behind ds k l v under rises) h.1 ∙ ap map (joined_behind ds k v es))

rising_read : (at : ℕ) (child : Reader Value) (n : ℕ) (before : Before) (s : List ℕ) (es : Entries) (t : List ℕ) → entries at true child n before s ≡ read es t → Rising before es
unfolding entries Rising
rising_read at child zero before s es t e = finish (λ es t. Rising before es) e tt
rising_read at child (suc n) before s es t e =
    split (text at s) e (λ k u e₀ e₁.
    passed (ascends before k) _ _ _ _ e₁ (λ ascending e₂.
    split (child u) e₂ (λ v u₁ e₃ e₄.
    split (entries at true child n (the_key k) u₁) e₄ (λ ds u₂ e₅ e₆.
    finish (λ es t. Rising before es) {a = entry k v ds} {s = u₂} e₆ (ascending, rising_read at child n (the_key k) u₁ ds u₂ e₅)))))

-- a map that is made of what was read is what was read
pub map_of_read : (at : ℕ) (child : Reader Value) (n : ℕ) (s : List ℕ) (es : Entries) (t : List ℕ) → entries at true child n no_key s ≡ read es t → all_inserted (map no_entries) es ≡ map es
unfolding joined
map_of_read at child n s es t e = inserted_onto no_entries no_key es (λ k up. refl) (rising_read at child n no_key s es t e)
