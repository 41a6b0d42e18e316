-- A map into which was inserted: what it has at a key, how many entries, and in which order.
use Rattle.std.proofs.Common.{◌≡◌, ℕ, zero, suc, ◌<◌, ◌≤◌, ap, ◌+◌, Bool, true, false, cond, sym, refl, ◌∙◌, arith}
use mathlib.Core.Option.{Option, none, some}
use Rattle.std.proofs.lemmas.Bool.{and_parts, and_from, true≢false}
use Rattle.std.specs.Str.{bytes_eq as same_text}
use Rattle.meaning.specs.Bytes.{precedes}
use Rattle.meaning.specs.Value.{Value, Entries, Text, map, no_entries, entry}
use Rattle.meaning.specs.Parts.{insert, value_of, count_entries}
use Rattle.store.specs.Values.{nth_entry, above_bound, first_above, any_above, lower, starts_above, ascends, above_all}
use Rattle.store.proofs.Keys.{Side, before, at, behind, side, same_is, same_itself, precedes_trans, precedes_differs, precedes_back, differs_back, precedes_itself}

-- how an insertion goes at the first entry
insert_before : (k l : Text) (v w : Value) (es : Entries) → precedes k l ≡ true → insert k v (entry l w es) ≡ entry k v (entry l w es)
insert_before k l v w es h = rw (precedes_differs k l h, h)

insert_at : (k : Text) (v w : Value) (es : Entries) → insert k v (entry k w es) ≡ entry k v es
insert_at k v w es = rw (same_itself k)

insert_behind : (k l : Text) (v w : Value) (es : Entries) → precedes l k ≡ true → insert k v (entry l w es) ≡ entry l w (insert k v es)
insert_behind k l v w es h = rw (differs_back l k h, precedes_back l k h)

skip_same : {A : Type 0} (b : Bool) (v w a : A) → cond b v a ≡ cond b v (cond b w a)
skip_same true v w a = refl
skip_same false v w a = refl

-- the newest equal key counts
pub value_of_insert : (es : Entries) (k q : Text) (v : Value) → value_of (insert k v es) q ≡ cond (same_text q k) (some v) (value_of es q)
value_of_insert no_entries k q v = refl
value_of_insert (entry l w es) k q v = by (side k l) (value_of_insert es k q v)
  where
    exchange : precedes l k ≡ true → (b c : Bool) → same_text q k ≡ b → same_text q l ≡ c → cond c (some w) (cond b (some v) (value_of es q)) ≡ cond b (some v) (cond c (some w) (value_of es q))
    exchange h true true e f =
        let both : k ≡ l = sym (same_is q k e) ∙ same_is q l f in
        let same : same_text k l ≡ true = rw both (same_itself l) in
        absurd (true≢false (sym same ∙ differs_back l k h))
    exchange h true false e f = refl
    exchange h false true e f = refl
    exchange h false false e f = refl

    by : Side k l → value_of (insert k v es) q ≡ cond (same_text q k) (some v) (value_of es q) → value_of (insert k v (entry l w es)) q ≡ cond (same_text q k) (some v) (cond (same_text q l) (some w) (value_of es q))
    by (before h) ih = rw (insert_before k l v w es h)
    by (at e) ih = rw (← e, insert_at k v w es) (skip_same (same_text q k) (some v) (some w) (value_of es q))
    by (behind h) ih = rw (insert_behind k l v w es h, ih) (exchange h (same_text q k) (same_text q l) refl refl)

abbrev pub is_some : {A : Type 0} → Option A → Bool
is_some none = false
is_some (some a) = true

-- no key is below the first
missing : (k l : Text) (es : Entries) → precedes k l ≡ true → starts_above l es ≡ true → ascends es ≡ true → value_of es k ≡ none
missing k l no_entries h s a = refl
missing k l (entry m x es) h s a =
    let below = precedes_trans k l m h s in
    let p = and_parts (starts_above m es) (ascends es) a in
    rw (precedes_differs k m below) (missing k m es below p.0 p.1)

pub count_insert : (es : Entries) (k : Text) (v : Value) → ascends es ≡ true → count_entries (insert k v es) ≡ count_entries es + cond (is_some (value_of es k)) 0 1
count_insert no_entries k v a = refl
count_insert (entry l w es) k v a =
    let p = and_parts (starts_above l es) (ascends es) a in
    by (side k l) p.0 p.1 (count_insert es k v p.1)
  where
    by : Side k l → starts_above l es ≡ true → ascends es ≡ true → count_entries (insert k v es) ≡ count_entries es + cond (is_some (value_of es k)) 0 1 → count_entries (insert k v (entry l w es)) ≡ suc (count_entries es) + cond (is_some (cond (same_text k l) (some w) (value_of es k))) 0 1
    by (before h) s t ih = rw (insert_before k l v w es h, precedes_differs k l h, missing k l es h s t) (omega arith)
    by (at e) s t ih = rw (← e, insert_at k v w es, same_itself k) (omega arith)
    by (behind h) s t ih = rw (insert_behind k l v w es h, differs_back l k h) (omega arith)

starts_above_insert : (j k : Text) (es : Entries) (v : Value) → starts_above j es ≡ true → precedes j k ≡ true → starts_above j (insert k v es) ≡ true
starts_above_insert j k no_entries v s h = h
starts_above_insert j k (entry l w es) v s h = by (side k l)
  where
    by : Side k l → starts_above j (insert k v (entry l w es)) ≡ true
    by (before g) = rw (insert_before k l v w es g) h
    by (at e) = rw (← e, insert_at k v w es) h
    by (behind g) = rw (insert_behind k l v w es g) s

pub ascends_insert : (es : Entries) (k : Text) (v : Value) → ascends es ≡ true → ascends (insert k v es) ≡ true
ascends_insert no_entries k v a = refl
ascends_insert (entry l w es) k v a =
    let p = and_parts (starts_above l es) (ascends es) a in
    by (side k l) p.0 p.1 (ascends_insert es k v p.1)
  where
    by : Side k l → starts_above l es ≡ true → ascends es ≡ true → ascends (insert k v es) ≡ true → ascends (insert k v (entry l w es)) ≡ true
    by (before h) s t ih = rw (insert_before k l v w es h) (and_from (precedes k l) _ h (and_from (starts_above l es) _ s t))
    by (at e) s t ih = rw (← e, insert_at k v w es) (and_from (starts_above k es) _ (rw e s) t)
    by (behind h) s t ih = rw (insert_behind k l v w es h) (and_from (starts_above l (insert k v es)) _ (starts_above_insert l k es v s h) ih)

-- what lies above something above the bound lies above it too
above_more : (a : Option Text) (k l : Text) → above_bound a k ≡ true → precedes k l ≡ true → above_bound a l ≡ true
above_more none k l h e = refl
above_more (some b) k l h e = precedes_trans b k l h e

-- the first entry above a bound, once another entry is in
pub first_above_insert : (es : Entries) (k : Text) (v : Value) (a : Option Text) → first_above (insert k v es) a ≡ cond (above_bound a k) (lower (some (k, v)) (first_above es a)) (first_above es a)
first_above_insert no_entries k v a = refl
first_above_insert (entry l w es) k v a = by (side k l) (above_bound a k) refl (above_bound a l) refl (first_above_insert es k v a)
  where
    L : Option (Text × Value)
    L = first_above es a

    by : Side k l → (b : Bool) → above_bound a k ≡ b → (c : Bool) → above_bound a l ≡ c → first_above (insert k v es) a ≡ cond (above_bound a k) (lower (some (k, v)) L) L → first_above (insert k v (entry l w es)) a ≡ cond (above_bound a k) (lower (some (k, v)) (cond (above_bound a l) (some (l, w)) L)) (cond (above_bound a l) (some (l, w)) L)
    by (before h) true f true g ih = rw (insert_before k l v w es h, f, g, precedes_back k l h)
    by (before h) true f false g ih = absurd (true≢false (sym (above_more a k l f h) ∙ g))
    by (before h) false f c g ih = rw (insert_before k l v w es h, f)
    by (at e) true f c g ih = rw (← e, insert_at k v w es, f, precedes_itself k)
    by (at e) false f c g ih = rw (← e, insert_at k v w es, f)
    by (behind h) true f true g ih = rw (insert_behind k l v w es h, f, g, h)
    by (behind h) true f false g ih = rw (insert_behind k l v w es h, g, ih)
    by (behind h) false f true g ih = absurd (true≢false (sym (above_more a l k g h) ∙ f))
    by (behind h) false f false g ih = rw (insert_behind k l v w es h, g, ih)

pub lower_some : (e : Text × Value) (f : Option (Text × Value)) → elim (lower (some e) f) [ none ↦ false | some e ↦ true ] ≡ true
lower_some e none = refl
lower_some e (some f) = by (precedes f.0 e.0)
  where
    by : (o : Bool) → elim (cond {A = Option (Text × Value)} o (some f) (some e)) [ none ↦ false | some e ↦ true ] ≡ true
    by true = refl
    by false = refl

pub lower_none : (best : Option (Text × Value)) → best ≡ lower best none
lower_none none = refl
lower_none (some e) = refl

-- the lowest of three entries, by either pair first
pub lower_assoc : (x y z : Option (Text × Value)) → lower x (lower y z) ≡ lower (lower x y) z
lower_assoc none y z = refl
lower_assoc (some b) none z = refl
lower_assoc (some b) (some e) none = by (precedes e.0 b.0)
  where
    by : (o : Bool) → cond {A = Option (Text × Value)} o (some e) (some b) ≡ lower (cond o (some e) (some b)) none
    by true = refl
    by false = refl
lower_assoc (some b) (some e) (some l) = by (precedes e.0 b.0) refl (precedes l.0 e.0) refl
  where
    not_before : (j k l : Text) → precedes k j ≡ false → precedes l k ≡ false → precedes l j ≡ false
    not_before j k l p q = pick (precedes l j) refl (side l k) (side k j)
      where
        pick : (r : Bool) → precedes l j ≡ r → Side l k → Side k j → precedes l j ≡ false
        pick false e s t = e
        pick true e (before h) t = absurd (true≢false (sym h ∙ q))
        pick true e (at f) t = absurd (true≢false (sym (rw f at e) ∙ p))
        pick true e (behind h) (before g) = absurd (true≢false (sym g ∙ p))
        pick true e (behind h) (at g) = absurd (true≢false (sym e ∙ rw g at (precedes_back k l h)))
        pick true e (behind h) (behind g) = absurd (true≢false (sym e ∙ precedes_back j l (precedes_trans j k l g h)))

    by : (x : Bool) → precedes e.0 b.0 ≡ x → (y : Bool) → precedes l.0 e.0 ≡ y → lower (some b) (cond y (some l) (some e)) ≡ lower (cond x (some e) (some b)) (some l)
    by true p true q = rw (q, precedes_trans l.0 e.0 b.0 q p)
    by true p false q = rw (p, q)
    by false p true q = refl
    by false p false q = rw (p, not_before b.0 e.0 l.0 p q)

-- A KEY ABOVE ALL OTHERS

-- with the entry behind the others
abbrev pub behind_all : Entries → Text → Value → Entries
behind_all no_entries k v = entry k v no_entries
behind_all (entry l w es) k v = entry l w (behind_all es k v)

pub insert_last : (es : Entries) (k : Text) (v : Value) → above_all k es ≡ true → insert k v es ≡ behind_all es k v
insert_last no_entries k v h = refl
insert_last (entry l w es) k v h =
    let p = and_parts (precedes l k) _ h in
    rw (insert_behind k l v w es p.0) (ap (entry l w) (insert_last es k v p.1))

count_behind : (es : Entries) (k : Text) (v : Value) → count_entries (behind_all es k v) ≡ count_entries es + 1
count_behind no_entries k v = refl
count_behind (entry l w es) k v = omega (arith, count_behind es k v)

pub count_last : (es : Entries) (k : Text) (v : Value) → above_all k es ≡ true → count_entries (insert k v es) ≡ count_entries es + 1
count_last es k v h = rw (insert_last es k v h) (count_behind es k v)

nth_behind : (es : Entries) (k : Text) (v : Value) (n : ℕ) → n < count_entries es → nth_entry (behind_all es k v) n ≡ nth_entry es n
nth_behind no_entries k v n l = absurd (omega arith)
nth_behind (entry j w es) k v zero l = refl
nth_behind (entry j w es) k v (suc n) l = nth_behind es k v n (omega arith)

-- the entries under it by their numbers
pub nth_under_last : (es : Entries) (k : Text) (v : Value) (n : ℕ) → above_all k es ≡ true → n < count_entries es → nth_entry (insert k v es) n ≡ nth_entry es n
nth_under_last es k v n h l = rw (insert_last es k v h) (nth_behind es k v n l)

nth_behind_top : (es : Entries) (k : Text) (v : Value) (n : ℕ) → n ≡ count_entries es → nth_entry (behind_all es k v) n ≡ some (k, v)
nth_behind_top no_entries k v zero l = refl
nth_behind_top no_entries k v (suc n) l = absurd (omega arith)
nth_behind_top (entry j w es) k v zero l = absurd (omega arith)
nth_behind_top (entry j w es) k v (suc n) l = nth_behind_top es k v n (omega arith)

pub nth_last : (es : Entries) (k : Text) (v : Value) (n : ℕ) → above_all k es ≡ true → n ≡ count_entries es → nth_entry (insert k v es) n ≡ some (k, v)
nth_last es k v n h l = rw (insert_last es k v h) (nth_behind_top es k v n l)

pub nth_entry_past : (es : Entries) (n : ℕ) → count_entries es ≤ n → nth_entry es n ≡ none
nth_entry_past no_entries n l = refl
nth_entry_past (entry k v es) zero l = absurd (omega arith)
nth_entry_past (entry k v es) (suc n) l = nth_entry_past es n (omega arith)

-- a key below one of the others is below it
pub under_last : (es : Entries) (k q : Text) → above_all k es ≡ true → any_above (map es) (some q) ≡ true → precedes q k ≡ true
under_last no_entries k q h g = cc
under_last (entry l w es) k q h g =
    let p = and_parts (precedes l k) _ h in
    by (precedes q l) refl p.0 g (under_last es k q p.1)
  where
    by : (b : Bool) → precedes q l ≡ b → precedes l k ≡ true → elim (cond {A = Option (Text × Value)} b (some (l, w)) (first_above es (some q))) [ none ↦ false | some e ↦ true ] ≡ true → (any_above (map es) (some q) ≡ true → precedes q k ≡ true) → precedes q k ≡ true
    by true e p g again = precedes_trans q l k e p
    by false e p g again = again g

first_behind : (es : Entries) (k : Text) (v : Value) (a : Option Text) → any_above (map es) a ≡ true → first_above (behind_all es k v) a ≡ first_above es a
first_behind no_entries k v a g = cc
first_behind (entry l w es) k v a g = by (above_bound a l) g (first_behind es k v a)
  where
    by : (b : Bool) → elim (cond {A = Option (Text × Value)} b (some (l, w)) (first_above es a)) [ none ↦ false | some e ↦ true ] ≡ true → (any_above (map es) a ≡ true → first_above (behind_all es k v) a ≡ first_above es a) → cond b (some (l, w)) (first_above (behind_all es k v) a) ≡ cond b (some (l, w)) (first_above es a)
    by true g again = refl
    by false g again = again g

-- the first of the others above a bound
pub first_under_last : (es : Entries) (k : Text) (v : Value) (a : Option Text) → above_all k es ≡ true → any_above (map es) a ≡ true → first_above (insert k v es) a ≡ first_above es a
first_under_last es k v a h g = rw (insert_last es k v h) (first_behind es k v a g)

-- neither it nor a key above it is among the others
pub none_last : (es : Entries) (k q : Text) → above_all k es ≡ true → above_bound (some q) k ≡ false → value_of es q ≡ none
none_last no_entries k q h b = refl
none_last (entry l w es) k q h b =
    let p = and_parts (precedes l k) _ h in
    rw (by (side q l)) (none_last es k q p.1 b)
  where
    by : Side q l → same_text q l ≡ false
    by (before g) = absurd (true≢false (sym (precedes_trans q l k g (and_parts (precedes l k) _ h).0) ∙ b))
    by (at e) = absurd (true≢false (sym (rw e (and_parts (precedes l k) _ h).0) ∙ b))
    by (behind g) = differs_back l q g

-- none of the others is above a bound that it is not above
pub first_none : (es : Entries) (k : Text) (a : Option Text) → above_all k es ≡ true → above_bound a k ≡ false → first_above es a ≡ none
first_none no_entries k a h b = refl
first_none (entry l w es) k a h b =
    let p = and_parts (precedes l k) _ h in
    rw (by (above_bound a l) refl p.0) (first_none es k a p.1 b)
  where
    by : (c : Bool) → above_bound a l ≡ c → precedes l k ≡ true → above_bound a l ≡ false
    by true e g = absurd (true≢false (sym (above_more a l k e g) ∙ b))
    by false e g = e

pub above_all_behind : (es : Entries) (k q : Text) (v : Value) → above_all k es ≡ true → precedes k q ≡ true → above_all q (behind_all es k v) ≡ true
above_all_behind no_entries k q v h g = and_from _ _ g refl
above_all_behind (entry l w es) k q v h g =
    let p = and_parts (precedes l k) _ h in
    and_from _ _ (precedes_trans l k q p.0 g) (above_all_behind es k q v p.1 g)

-- a key above it is above all
pub above_all_last : (es : Entries) (k q : Text) (v : Value) → above_all k es ≡ true → precedes k q ≡ true → above_all q (insert k v es) ≡ true
above_all_last es k q v h g = rw (insert_last es k v h) (above_all_behind es k q v h g)
