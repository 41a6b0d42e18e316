-- The entries of a map by their numbers in the order of keys: each is the first above the key of the one before it.
use Rattle.std.proofs.Common.{◌≡◌, ℕ, zero, suc, ◌+◌, ◌≤◌, true, [], sym, refl, ap, ◌∙◌, subst, add-one, arith}
use mathlib.Core.Option.{Option, none, some}
use Rattle.std.proofs.lemmas.Bool.{and_parts, cond-true, cond-false}
use Rattle.meaning.specs.Bytes.{precedes}
use Rattle.meaning.specs.Value.{Value, Entries, Text, none as none_value, boolean, integer, float, string, list, map, no_entries, entry}
use Rattle.store.specs.Kinds.{kind_of}
use Rattle.store.specs.Stores.{Known, value}
use Rattle.store.specs.Values.{nth_entry, entry_at, first_above, first_in, starts_above, ascends}
use Rattle.store.specs.declared.cell.Ref.{Ref}
use Rattle.store.specs.declared.cell.Ref.TheVariants.{None as Nothing, At}
use Rattle.store.specs.declared.memory.Store.{Store}
use Rattle.store.proofs.Keys.{precedes_trans, precedes_back, precedes_itself}
use Rattle.store.proofs.Stores.{store_map, known_at}

pair_key : {k l : Text} {v w : Value} → ◌≡◌ {A = Option (Text × Value)} (some (k, v)) (some (l, w)) → k ≡ l
pair_key {k} {l} {v} {w} e = ap (λ (o : Option (Text × Value)). elim o [ none ↦ [] | some p ↦ p.0 ]) e

first_nth : (es : Entries) → first_above es none ≡ nth_entry es 0
first_nth no_entries = refl
first_nth (entry k v es) = refl

-- the first entry is above what the entries start above
starts_nth : (l : Text) (es : Entries) → starts_above l es ≡ true → first_above es (some l) ≡ nth_entry es 0
starts_nth l no_entries s = refl
starts_nth l (entry k v es) s = cond-true (precedes l k) _ _ s

keys_above : (l : Text) (es : Entries) (i : ℕ) (k : Text) (v : Value) → starts_above l es ≡ true → ascends es ≡ true → nth_entry es i ≡ some (k, v) → precedes l k ≡ true
keys_above l no_entries i k v s a e = cc
keys_above l (entry m w es) zero k v s a e = subst (λ (x : Text). precedes l x ≡ true) (pair_key e) s
keys_above l (entry m w es) (suc i) k v s a e =
    let p = and_parts (starts_above m es) (ascends es) a in
    precedes_trans l m k s (keys_above m es i k v p.0 p.1 e)

next_nth : (es : Entries) (i : ℕ) (k : Text) (v : Value) → ascends es ≡ true → nth_entry es i ≡ some (k, v) → first_above es (some k) ≡ nth_entry es (suc i)
next_nth no_entries i k v a e = cc
next_nth (entry l w es) zero k v a e =
    let p = and_parts (starts_above l es) (ascends es) a in
    rw (← pair_key e) (cond-false (precedes l l) _ _ (precedes_itself l) ∙ starts_nth l es p.0)
next_nth (entry l w es) (suc i) k v a e =
    let p = and_parts (starts_above l es) (ascends es) a in
    cond-false (precedes k l) _ _ (precedes_back l k (keys_above l es i k v p.0 p.1 e)) ∙ next_nth es i k v p.1 e

past_nth : (es : Entries) (i n : ℕ) → nth_entry es i ≡ none → i ≤ n → nth_entry es n ≡ none
past_nth no_entries i n e l = refl
past_nth (entry k v es) zero n e l = cc
past_nth (entry k v es) (suc i) zero e l = absurd (omega arith)
past_nth (entry k v es) (suc i) (suc n) e l = past_nth es i n e (omega arith)

-- OF ANY VALUE

-- if it is a map, its keys ascend
abbrev pub Ordered : Value → Type 0
Ordered v = (es : Entries) → v ≡ map es → ascends es ≡ true

pub first_at : (v : Value) → first_in v none ≡ entry_at v 0
first_at none_value = refl
first_at (boolean b) = refl
first_at (integer n) = refl
first_at (float b) = refl
first_at (string t) = refl
first_at (list xs) = refl
first_at (map es) = first_nth es

next_at : (v : Value) (i : ℕ) (k : Text) (w : Value) → Ordered v → entry_at v i ≡ some (k, w) → first_in v (some k) ≡ entry_at v (suc i)
next_at none_value i k w o e = refl
next_at (boolean b) i k w o e = refl
next_at (integer n) i k w o e = refl
next_at (float b) i k w o e = refl
next_at (string t) i k w o e = refl
next_at (list xs) i k w o e = refl
next_at (map es) i k w o e = next_nth es i k w (o es refl) e

pub past_at : (v : Value) (i n : ℕ) → entry_at v i ≡ none → i ≤ n → entry_at v n ≡ none
past_at none_value i n e l = refl
past_at (boolean b) i n e l = refl
past_at (integer k) i n e l = refl
past_at (float b) i n e l = refl
past_at (string t) i n e l = refl
past_at (list xs) i n e l = refl
past_at (map es) i n e l = past_nth es i n e l

-- after the entry i comes the entry i + 1
pub after_entry : (v : Value) (i : ℕ) (k : Text) (w : Value) {e : Option (Text × Value)} → Ordered v → some (k, w) ≡ entry_at v i → e ≡ first_in v (some k) → e ≡ entry_at v (i + 1)
after_entry v i k w o h n = rw add-one (n ∙ next_at v i k w o (sym h))

-- IN A STORE

pub store_ordered : (s : Store) (r : Ref) → Known s r → Ordered (value s r)
store_ordered s Nothing k es e = cc
store_ordered s (At i) k es e =
    let m = store_map s i (known_at s refl k) (ap kind_of e) in
    let both : map m.0 ≡ map es = sym m.1 ∙ e in
    let same : m.0 ≡ es = cc in
    rw (sym same) m.2
