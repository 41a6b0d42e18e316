-- What a list that was pushed to has, and a map into which was inserted.
use Rattle.std.proofs.Common.{◌≡◌, ℕ, zero, suc, ◌+◌, ◌<◌, ◌≤◌, Bool, true, false, cond, not, ◌||◌, eqb, List, get_or, sym, refl, ap, ◌∙◌, arith}
use mathlib.Core.Option.{Option, none, some}
use Rattle.std.proofs.lemmas.Bool.{and_parts, and_from, cond-true, cond-false, eqb-true, false≢true, eq-eqb, ne_eqb}
use Rattle.std.specs.Str.{bytes_eq as same_text}
use Rattle.meaning.specs.Bytes.{precedes}
use Rattle.meaning.specs.Value.{Value, Items, Entries, Text, none as none_value, boolean, integer, float, string, list, map, no_items, item, no_entries, entry}
use Rattle.meaning.specs.Parts.{append, count_items, nth, insert, count_entries, truth, kind}
use Rattle.store.specs.Values.{pushed, inserted, part_of, entry_in, entry_at, above_bound, first_in, any_above, lower, has_parts, has_entries, goes_last, above_all, ascends}
use Rattle.store.specs.Cells.{at_span, of_ref}
use Rattle.store.specs.Jumps.{Begins}
use Rattle.store.specs.Shown.{ShowsPush, ShowsInsert}
use Rattle.store.specs.Kinds.{kind_of, byte_of, size_of}
use Rattle.store.specs.declared.kinds.Kind.{Kind}
use Rattle.store.specs.declared.cell.TextSpan.{TextSpan}
use Rattle.store.specs.declared.cell.Ref.{Ref}
use Rattle.store.proofs.Keys.{precedes_back, differs_back}
use Rattle.store.proofs.Maps.{is_some, value_of_insert, count_insert, ascends_insert, first_above_insert, lower_assoc, lower_some, lower_none, none_last, first_none, nth_entry_past, nth_last, nth_under_last, count_last, above_all_last}

pub count_append : (xs : Items) (v : Value) → count_items (append xs v) ≡ count_items xs + 1
count_append no_items v = refl
count_append (item w xs) v = omega (arith, count_append xs v)

pub nth_low : (xs : Items) (v : Value) (i : ℕ) → i < count_items xs → nth (append xs v) i ≡ nth xs i
nth_low no_items v i h = absurd (omega arith)
nth_low (item w xs) v zero h = refl
nth_low (item w xs) v (suc i) h = nth_low xs v i (omega arith)

pub nth_top : (xs : Items) (v : Value) (i : ℕ) → i ≡ count_items xs → nth (append xs v) i ≡ some v
nth_top no_items v zero h = refl
nth_top no_items v (suc i) h = absurd (omega arith)
nth_top (item w xs) v zero h = absurd (omega arith)
nth_top (item w xs) v (suc i) h = nth_top xs v i (omega arith)

pub nth_past : (xs : Items) (i : ℕ) → count_items xs ≤ i → nth xs i ≡ none
nth_past no_items i h = refl
nth_past (item w xs) zero h = absurd (omega arith)
nth_past (item w xs) (suc i) h = nth_past xs i (omega arith)

-- what counts as a list once it is pushed to was a list
pub pushed_list : (n : ℕ) (f v : Value) → has_parts n (pushed f v) ≡ true → (xs : Items) × (f ≡ list xs) × (count_items xs + 1 ≡ n)
pushed_list n none_value v h = absurd (false≢true h)
pushed_list n (boolean b) v h = absurd (false≢true h)
pushed_list n (integer k) v h = absurd (false≢true h)
pushed_list n (float b) v h = absurd (false≢true h)
pushed_list n (string t) v h = absurd (false≢true h)
pushed_list n (list xs) v h = (xs, refl, omega (arith, eqb-true _ _ h, count_append xs v))
pushed_list n (map es) v h = absurd (false≢true h)

last_if : (sorted : Bool) (key : Text) (es : Entries) → (not sorted || goes_last key (map es)) ≡ true → sorted ≡ true → above_all key es ≡ true
last_if true key es h e = h
last_if false key es h e = absurd (false≢true e)

-- what it says that something counts as a map once it is inserted into
pub record WasMap (n : ℕ) (f : Value) (k : Text) (v : Value) (sorted : Bool) : Type 0 where
  pub entries : Entries
  pub front_is : f ≡ map entries
  pub counted : count_entries (insert k v entries) ≡ n
  pub ascending : ascends (insert k v entries) ≡ true
  pub last : sorted ≡ true → above_all k entries ≡ true

pub inserted_map : (n : ℕ) (f : Value) (k : Text) (v : Value) (sorted : Bool) → has_entries n (inserted f k v) ≡ true → (not sorted || goes_last k f) ≡ true → WasMap n f k v sorted
inserted_map n none_value k v sorted h g = absurd (false≢true h)
inserted_map n (boolean b) k v sorted h g = absurd (false≢true h)
inserted_map n (integer j) k v sorted h g = absurd (false≢true h)
inserted_map n (float b) k v sorted h g = absurd (false≢true h)
inserted_map n (string t) k v sorted h g = absurd (false≢true h)
inserted_map n (list xs) k v sorted h g = absurd (false≢true h)
inserted_map n (map es) k v sorted h g =
    let p = and_parts (eqb (count_entries (insert k v es)) n) _ h in
    record { entries = es; front_is = refl; counted = eqb-true _ _ p.0; ascending = p.1; last = last_if sorted k es g }

module _ {i : ℕ} {ms : List Value} {front : ℕ} {part : Ref} {len jump : ℕ} {v : Value} (p : ShowsPush i ms front part len jump v) where
  -- the part n of a list that was pushed to
  pub push_past : (n : ℕ) → len ≤ n → part_of v n ≡ none
  push_past n h = ap (λ (w : Value). part_of w n) p.value_is ∙ nth_past _ n (omega (arith, count_append p.items (of_ref ms part), p.counted))

  pub push_top : (n : ℕ) → n + 1 ≡ len → part_of v n ≡ some (of_ref ms part)
  push_top n h = ap (λ (w : Value). part_of w n) p.value_is ∙ nth_top p.items (of_ref ms part) n (omega (arith, p.counted))

  pub push_low : (n : ℕ) → n + 1 < len → part_of (get_or ms front none_value) n ≡ part_of v n
  push_low n h =
      ap (λ (w : Value). part_of w n) p.front_is
      ∙ sym (ap (λ (w : Value). part_of w n) p.value_is ∙ nth_low p.items (of_ref ms part) n (omega (arith, p.counted)))

  -- it is not empty
  pub push_true : truth v ≡ true
  push_true = ap truth p.value_is ∙ ap not (ne_eqb _ 0 (omega (arith, count_append p.items (of_ref ms part))))

  pub push_size : len ≡ size_of v
  push_size = sym (ap size_of p.value_is ∙ count_append p.items (of_ref ms part) ∙ p.counted)

-- a part of a list that begins with that one
pub jump_part : {v w : Value} → Begins v w → (n : ℕ) → n < size_of v → part_of v n ≡ part_of w n
jump_part b n h = sym (b.parts n h)

-- what is found in a map from where a sorted one jumps to
module _ (ms : List Value) (jump i : ℕ) (sorted : Bool) (v : Value) (b : Begins (get_or ms (cond sorted jump i) none_value) v) (s : sorted ≡ true) where
  begins_at : Begins (get_or ms jump none_value) v
  begins_at = rw s at b

  pub jump_key : (q : Text) → any_above (get_or ms jump none_value) (some q) ≡ true → entry_in (get_or ms jump none_value) q ≡ entry_in v q
  jump_key q h = sym (begins_at.keys q h)

  pub jump_first : (a : Option Text) → any_above (get_or ms jump none_value) a ≡ true → (best : Option (Text × Value)) → lower best (first_in (get_or ms jump none_value) a) ≡ lower best (first_in v a)
  jump_first a h best = sym (ap (lower best) (begins_at.firsts a h))

-- an entry of a map that begins with that one
pub jump_entry : {v w : Value} → Begins v w → (n : ℕ) → n < size_of v → entry_at v n ≡ entry_at w n
jump_entry b n h = sym (b.entries n h)

some_either : (b : Bool) (x y : Entries) → 0 < count_entries x → 0 < count_entries y → 0 < count_entries (cond b x y)
some_either true x y p q = p
some_either false x y p q = q

insert_some : (es : Entries) (k : Text) (v : Value) → 0 < count_entries (insert k v es)
insert_some no_entries k v = omega arith
insert_some (entry l w es) k v = some_either (same_text k l) _ _ (omega arith) (some_either (precedes k l) _ _ (omega arith) (omega arith))

pub kind_byte : (v : Value) → byte_of (kind_of v) ≡ kind v
kind_byte none_value = refl
kind_byte (boolean b) = refl
kind_byte (integer n) = refl
kind_byte (float b) = refl
kind_byte (string t) = refl
kind_byte (list xs) = refl
kind_byte (map es) = refl

-- a list that is pushed to has one part more
pub pushed_counts : (f v : Value) → kind_of f ≡ Kind.List → has_parts (size_of f + 1) (pushed f v) ≡ true
pushed_counts none_value v h = cc
pushed_counts (boolean b) v h = cc
pushed_counts (integer n) v h = cc
pushed_counts (float b) v h = cc
pushed_counts (string t) v h = cc
pushed_counts (list xs) v h = eq-eqb _ _ (count_append xs v)
pushed_counts (map es) v h = cc

-- a map into which is inserted has one entry more unless it has the key
pub inserted_counts : (f : Value) (es : Entries) (k : Text) (v : Value) → f ≡ map es → ascends es ≡ true → has_entries (size_of f + cond (is_some (entry_in f k)) 0 1) (inserted f k v) ≡ true
inserted_counts f es k v e a = rw e (and_from _ _ (eq-eqb _ _ (count_insert es k v a)) (ascends_insert es k v a))

-- and one entry more if the key is above all others
pub last_counts : (f : Value) (es : Entries) (k : Text) (v : Value) → f ≡ map es → ascends es ≡ true → goes_last k f ≡ true → has_entries (size_of f + 1) (inserted f k v) ≡ true
last_counts f es k v e a h = rw e (and_from _ _ (eq-eqb _ _ (count_last es k v (rw e at h))) (ascends_insert es k v a))

module _ {t : Text} {i : ℕ} {ms : List Value} {front : ℕ} {key : TextSpan} {part : Ref} {len jump : ℕ} {sorted : Bool} {v : Value} (p : ShowsInsert t i ms front key part len jump sorted v) where
  pub insert_true : truth v ≡ true
  insert_true = ap truth p.value_is ∙ ap not (ne_eqb _ 0 (omega (arith, insert_some p.entries (at_span t key) (of_ref ms part))))

  -- what a map into which was inserted has at the key that was inserted, and at another
  pub insert_hit : (q : Text) → same_text q (at_span t key) ≡ true → entry_in v q ≡ some (of_ref ms part)
  insert_hit q h =
      ap (λ (w : Value). entry_in w q) p.value_is
      ∙ value_of_insert p.entries (at_span t key) q (of_ref ms part)
      ∙ cond-true (same_text q (at_span t key)) _ _ h

  pub insert_miss : (q : Text) → same_text q (at_span t key) ≡ false → entry_in (get_or ms front none_value) q ≡ entry_in v q
  insert_miss q h =
      ap (λ (w : Value). entry_in w q) p.front_is
      ∙ sym (ap (λ (w : Value). entry_in w q) p.value_is
      ∙ value_of_insert p.entries (at_span t key) q (of_ref ms part)
      ∙ cond-false (same_text q (at_span t key)) _ _ h)

  -- the first entry above a bound, from a map into which was inserted and from the map before
  insert_first : (a : Option Text) → first_in v a ≡ cond (above_bound a (at_span t key)) (lower (some (at_span t key, of_ref ms part)) (first_in (get_or ms front none_value) a)) (first_in (get_or ms front none_value) a)
  insert_first a = rw p.front_is (ap (λ (w : Value). first_in w a) p.value_is ∙ first_above_insert p.entries (at_span t key) (of_ref ms part) a)

  pub next_hit : (a : Option Text) → above_bound a (at_span t key) ≡ true → (best better : Option (Text × Value)) → better ≡ lower best (some (at_span t key, of_ref ms part)) → lower better (first_in (get_or ms front none_value) a) ≡ lower best (first_in v a)
  next_hit a h best better e =
      let rest = first_in (get_or ms front none_value) a in
      ap (λ (x : Option (Text × Value)). lower x rest) e
      ∙ sym (lower_assoc best (some (at_span t key, of_ref ms part)) rest)
      ∙ sym (ap (lower best) (insert_first a ∙ cond-true (above_bound a (at_span t key)) _ _ h))

  pub next_miss : (a : Option Text) → above_bound a (at_span t key) ≡ false → (best : Option (Text × Value)) → lower best (first_in (get_or ms front none_value) a) ≡ lower best (first_in v a)
  next_miss a h best = sym (ap (lower best) (insert_first a ∙ cond-false (above_bound a (at_span t key)) _ _ h))

  -- a newest key above a bound
  pub insert_any : (a : Option Text) → above_bound a (at_span t key) ≡ true → any_above v a ≡ true
  insert_any a h =
      ap (λ (o : Option (Text × Value)). elim o [ none ↦ false | some e ↦ true ]) (insert_first a ∙ cond-true (above_bound a (at_span t key)) _ _ h)
      ∙ lower_some _ (first_in (get_or ms front none_value) a)

  -- WHERE THE KEY WENT IN ABOVE THE OTHERS

  pub insert_past : sorted ≡ true → (q : Text) → precedes (at_span t key) q ≡ true → entry_in v q ≡ none
  insert_past s q h =
      sym (insert_miss q (differs_back (at_span t key) q h))
      ∙ rw p.front_is (none_last p.entries (at_span t key) q (p.last s) (precedes_back (at_span t key) q h))

  pub next_stop : sorted ≡ true → (a : Option Text) → above_bound a (at_span t key) ≡ false → (best : Option (Text × Value)) → best ≡ lower best (first_in v a)
  next_stop s a h best =
      let gone : first_in v a ≡ none = insert_first a ∙ cond-false (above_bound a (at_span t key)) _ _ h ∙ rw p.front_is (first_none p.entries (at_span t key) a (p.last s) h) in
      rw gone (lower_none best)

  pub entry_past : (n : ℕ) → len ≤ n → entry_at v n ≡ none
  entry_past n h = rw p.value_is (nth_entry_past _ n (omega (arith, p.counted)))

  pub entry_top : sorted ≡ true → (n : ℕ) → n + 1 ≡ len → entry_at v n ≡ some (at_span t key, of_ref ms part)
  entry_top s n h = rw p.value_is (nth_last p.entries (at_span t key) (of_ref ms part) n (p.last s) (omega (arith, p.counted, count_last p.entries (at_span t key) (of_ref ms part) (p.last s))))

  pub entry_low : sorted ≡ true → (n : ℕ) → n + 1 < len → entry_at (get_or ms front none_value) n ≡ entry_at v n
  entry_low s n h =
      rw (p.front_is, p.value_is)
      (sym (nth_under_last p.entries (at_span t key) (of_ref ms part) n (p.last s) (omega (arith, p.counted, count_last p.entries (at_span t key) (of_ref ms part) (p.last s)))))

  -- a key above the newest one is above all
  pub insert_under : sorted ≡ true → (q : Text) → precedes (at_span t key) q ≡ true → goes_last q v ≡ true
  insert_under s q h = rw p.value_is (above_all_last p.entries (at_span t key) q (of_ref ms part) (p.last s) h)
