-- The turns of a loop, and what its names stand for in one.
use Rattle.std.proofs.Common.{◌≡◌, ℕ, zero, suc, ◌+◌, ◌<◌, ◌≤◌, Bool, true, false, cond, List, [], ◌∷◌, length, drop, Some, None, Ok, Err, Result, sym, refl, ap, ◌∙◌, arith, codes}
use Rattle.std.proofs.Math.ListN.{get_elem?}
use Rattle.std.proofs.Math.Option.{Option, none, some}
use Rattle.std.proofs.lemmas.List.{drop_all}
use Rattle.std.specs.Str.{bytes_eq as same_text}
use Rattle.std.specs.declared.option.Option as code_option
use Rattle.meaning.specs.Charge.{one_cell}
use Rattle.meaning.specs.Fault.{Fault, fault_at}
use Rattle.meaning.specs.Or.{Or, fails, gives}
use Rattle.meaning.specs.Parts.{nth, count_items, count_entries}
use Rattle.meaning.specs.Scopes.{Current, one_item, one_entry, Turn, Visible, Had, stored, ask, in_item, in_current, in_turn, no_further, loop_value, loop_variable, look_up}
use Rattle.meaning.specs.Spans.{access_span, text_at}
use Rattle.meaning.specs.Statements.{item_turns, entry_turns}
use Rattle.meaning.specs.Value.{Value, none as none_value, boolean, integer, float, string, list, map, Items, no_items, item, Entries, no_entries, entry, Text}
use Rattle.meaning.specs.Walk.{Walked, found, missed, failed, walk}
use Rattle.meaning.specs.declared.fault.Fault as code
use Rattle.meaning.specs.declared.tree.Access.{Access}
use Rattle.meaning.specs.declared.tree.Access.TheVariants.{Index, Key}
use Rattle.meaning.specs.declared.tree.Member.{Member}
use Rattle.meaning.specs.declared.tree.Span.{Span}
use Rattle.decoder.specs.declared.decoded.LoopVars.{LoopVars}
use Rattle.decoder.specs.declared.decoded.LoopVars.TheVariants as vars
use Rattle.machine.specs.Machine.{a_loop, seen}
use Rattle.reader.specs.Fields.{members_of}
use Rattle.store.specs.Kinds.{byte_of, kind_of, size_of}
use Rattle.store.specs.Stores.{Found, entry_shown, shown, value}
use Rattle.store.specs.Values.{part_of, entry_at, nth_entry}
use Rattle.store.specs.declared.cell.Entry as cell
use Rattle.store.specs.declared.cell.Ref.{Ref}
use Rattle.store.specs.declared.kinds.Kind.{Kind}
use Rattle.store.specs.declared.memory.Store.{Store}
use Rattle.lookup.specs.Paths as lookup
use Rattle.scopes.specs.Entries.{items_of, entries_of, turns_over, begun, loop_at}
use Rattle.scopes.specs.Iterating.{AtEnd, GoesOn}
use Rattle.scopes.specs.Layers.{iterable_kind}
use Rattle.scopes.specs.Looping.{LooksIn, or_outward, turn_of}
use Rattle.scopes.specs.Searching.{Answers, first_text, looked_up}
use Rattle.scopes.specs.declared.loop_value.Turn as code_turn
use Rattle.scopes.specs.declared.var.Var.{Var}
use Rattle.scopes.proofs.Finds.{answers_as, has_stored, has_fault}

-- WHAT IS THERE

some_item : (xs : Items) (n : ℕ) → n < count_items xs → nth xs n ≡ none → ⊥
some_item no_items n h e = absurd (omega arith)
some_item (item v xs) zero h e = cc
some_item (item v xs) (suc n) h e = some_item xs n (omega arith) e

some_entry : (es : Entries) (n : ℕ) → n < count_entries es → nth_entry es n ≡ none → ⊥
some_entry no_entries n h e = absurd (omega arith)
some_entry (entry k v es) zero h e = cc
some_entry (entry k v es) (suc n) h e = some_entry es n (omega arith) e

module _ (n : ℕ) where
  pub part_in_list : (v : Value) → kind_of v ≡ Kind.List → part_of v n ≡ nth (items_of v) n
  part_in_list none_value k = absurd (omega (arith, ap byte_of k))
  part_in_list (boolean b) k = absurd (omega (arith, ap byte_of k))
  part_in_list (integer i) k = absurd (omega (arith, ap byte_of k))
  part_in_list (float b) k = absurd (omega (arith, ap byte_of k))
  part_in_list (string t) k = absurd (omega (arith, ap byte_of k))
  part_in_list (list xs) k = refl
  part_in_list (map es) k = absurd (omega (arith, ap byte_of k))

  pub entry_in_map : (v : Value) → kind_of v ≡ Kind.Map → entry_at v n ≡ nth_entry (entries_of v) n
  entry_in_map none_value k = absurd (omega (arith, ap byte_of k))
  entry_in_map (boolean b) k = absurd (omega (arith, ap byte_of k))
  entry_in_map (integer i) k = absurd (omega (arith, ap byte_of k))
  entry_in_map (float b) k = absurd (omega (arith, ap byte_of k))
  entry_in_map (string t) k = absurd (omega (arith, ap byte_of k))
  entry_in_map (list xs) k = absurd (omega (arith, ap byte_of k))
  entry_in_map (map es) k = refl

pub items_counted : (v : Value) → kind_of v ≡ Kind.List → size_of v ≡ count_items (items_of v)
items_counted none_value k = absurd (omega (arith, ap byte_of k))
items_counted (boolean b) k = absurd (omega (arith, ap byte_of k))
items_counted (integer i) k = absurd (omega (arith, ap byte_of k))
items_counted (float b) k = absurd (omega (arith, ap byte_of k))
items_counted (string t) k = absurd (omega (arith, ap byte_of k))
items_counted (list xs) k = refl
items_counted (map es) k = absurd (omega (arith, ap byte_of k))

pub entries_counted : (v : Value) → kind_of v ≡ Kind.Map → size_of v ≡ count_entries (entries_of v)
entries_counted none_value k = absurd (omega (arith, ap byte_of k))
entries_counted (boolean b) k = absurd (omega (arith, ap byte_of k))
entries_counted (integer i) k = absurd (omega (arith, ap byte_of k))
entries_counted (float b) k = absurd (omega (arith, ap byte_of k))
entries_counted (string t) k = absurd (omega (arith, ap byte_of k))
entries_counted (list xs) k = absurd (omega (arith, ap byte_of k))
entries_counted (map es) k = refl

module _ (s : Store) (v : Value) (n : ℕ) where
  pub item_there : kind_of v ≡ Kind.List → n < size_of v → (r : code_option.Option Ref) → r ≡ None → Found s (part_of v n) r → ⊥
  item_there k h r e f =
      by (part_of v n) (λ i. some_item (items_of v) n (omega (arith, items_counted v k)) (sym (part_in_list n v k) ∙ i)) (rw e at f)
    where
      by : (o : Option Value) → (o ≡ none → ⊥) → Found s o None → ⊥
      by (some w) not f = f
      by none not f = not refl

  pub entry_there : kind_of v ≡ Kind.Map → n < size_of v → (r : code_option.Option cell.Entry) → r ≡ None → shown s r ≡ entry_at v n → ⊥
  entry_there k h r e f =
      some_entry (entries_of v) n (omega (arith, entries_counted v k)) (sym (entry_in_map n v k) ∙ sym f ∙ ap (shown s) e)

  pub item_is : kind_of v ≡ Kind.List → (r : Ref) → Found s (part_of v n) (Some r) → nth (items_of v) n ≡ some (value s r)
  item_is k r f = sym (part_in_list n v k) ∙ by (part_of v n) f
    where
      by : (o : Option Value) → Found s o (Some r) → o ≡ some (value s r)
      by (some w) f = ap some (sym f.1)
      by none f = absurd f

  pub entry_is : kind_of v ≡ Kind.Map → (e : cell.Entry) → shown s (Some e) ≡ entry_at v n → nth_entry (entries_of v) n ≡ some (entry_shown s e)
  entry_is k e f = sym (entry_in_map n v k) ∙ sym f

pub same_item : {o : Option Value} {v w : Value} → o ≡ some w → o ≡ some v → w ≡ v
same_item e f = cc

pub same_entry : {o : Option (Text × Value)} {k l : Text} {v w : Value} → o ≡ some (l, w) → o ≡ some (k, v) → (l ≡ k) × (w ≡ v)
same_entry {o} {k} {l} {v} {w} e f =
    let same : some (l, w) ≡ some (k, v) = sym e ∙ f in
    let pair : (l, w) ≡ (k, v) = cc in
    (ap (λ (p : Text × Value). p.0) pair, ap (λ (p : Text × Value). p.1) pair)

-- WHAT A NAME STANDS FOR

module _ (s : Store) (span : Span) (source : List ℕ) (ms : List Member) (outward : Or Fault Had) where
  item_answers : (v : Value) (r : Result (code_option.Option Ref) code.Fault) → lookup.Tells s (walk (ask source) v ms) r → Answers s s span (or_outward (in_item source v ms) outward) outward r
  item_answers v r t = by (walk (ask source) v ms) r t
    where
      by : (w : Walked Member) (r : Result (code_option.Option Ref) code.Fault) → lookup.Tells s w r
          → Answers s s span (or_outward (elim w [ found u ↦ some (gives (stored u)) | missed ↦ none | failed m c d ↦ some (fails (fault_at c m.span d)) ]) outward) outward r
      by (found u) (Ok (Some q)) t = has_stored s span u q t.0 t.1
      by (found u) (Ok None) t = absurd t
      by (found u) (Err f) t = absurd t
      by missed (Ok (Some q)) t = absurd t
      by missed (Ok None) t = (refl, refl)
      by missed (Err f) t = absurd t
      by (failed m c d) (Ok o) t = absurd t
      by (failed m c d) (Err f) t = has_fault s span _ f t

  pub under_item_name : (same : Bool) (v w : Value) (r : Result (code_option.Option Ref) code.Fault) → same ≡ true → w ≡ v → lookup.Tells s (walk (ask source) w ms) r
      → Answers s s span (or_outward (cond same (in_item source v ms) none) outward) outward r
  under_item_name same v w r e is t = rw e (item_answers v r (rw is at t))

  pub under_value_name : (same_key same : Bool) (had : Or Fault Had) (v w : Value) (r : Result (code_option.Option Ref) code.Fault)
      → same_key ≡ false → same ≡ true → w ≡ v → lookup.Tells s (walk (ask source) w ms) r
      → Answers s s span (or_outward (cond same_key (some had) (cond same (in_item source v ms) none)) outward) outward r
  under_value_name same_key same had v w r other e is t = rw other (under_item_name same v w r e is t)

module _ (before after : Store) (span : Span) (source : List ℕ) (ms : List Member) (outward : Or Fault Had) where
  pub under_key_name : (same : Bool) (k at : Text) (o : Option (Or Fault Had)) (r : Result (code_option.Option Ref) code.Fault) → same ≡ true → at ≡ k
      → Answers before after span (no_further source (gives (string at, one_cell)) ms) outward r
      → Answers before after span (or_outward (cond same (some (no_further source (gives (string k, one_cell)) ms)) o) outward) outward r
  under_key_name same k at o r e is t = rw e (rw is at t)

-- THE TURN THAT A LOOP IS IN

item_turn : (name : Text) (p len : ℕ) (xs : Items) (n : ℕ) (x : Value) → nth xs n ≡ some x
    → get_elem? (item_turns name p len xs) n ≡ some (record { current = one_item name x; position = p + n; length = len })
item_turn name p len no_items n x e = cc
item_turn name p len (item v xs) zero x e =
    let same : v ≡ x = cc in
    let here : p + 0 ≡ p = omega arith in
    rw (same, here)
item_turn name p len (item v xs) (suc n) x e =
    let there : p + suc n ≡ suc p + n = omega arith in
    rw there (item_turn name (suc p) len xs n x e)

entry_turn : (key_name value_name : Text) (p len : ℕ) (es : Entries) (n : ℕ) (k : Text) (x : Value) → nth_entry es n ≡ some (k, x)
    → get_elem? (entry_turns key_name value_name p len es) n ≡ some (record { current = one_entry key_name value_name k x; position = p + n; length = len })
entry_turn key_name value_name p len no_entries n k x e = cc
entry_turn key_name value_name p len (entry l v es) zero k x e =
    let same = same_entry {o = some (l, v)} refl e in
    let here : p + 0 ≡ p = omega arith in
    rw (same.0, same.1, here)
entry_turn key_name value_name p len (entry l v es) (suc n) k x e =
    let there : p + suc n ≡ suc p + n = omega arith in
    rw there (entry_turn key_name value_name (suc p) len es n k x e)

-- where one has begun
module _ (source : List ℕ) (v : Value) (next : ℕ) (turn : code_turn.Turn) (is : next ≡ suc turn.position) (counted : turn.length ≡ size_of v) (within : next ≤ size_of v) where
  pub record OneItem (name : Span) : Type 0 where
    pub value : Value
    pub there : nth (items_of v) turn.position ≡ some value
    pub begun : begun next (turns_over source (vars.Item name) v) ≡ some (turn_of turn (one_item (text_at source name) value))

  pub in_one_item : (name : Span) → kind_of v ≡ Kind.List → OneItem name
  in_one_item name k = by (nth (items_of v) turn.position) refl
    where
      by : (o : Option Value) → nth (items_of v) turn.position ≡ o → OneItem name
      by (some x) e =
          let zero_and : 0 + turn.position ≡ turn.position = omega arith in
          record {
            value = x;
            there = e;
            begun = rw is (item_turn (text_at source name) 0 (count_items (items_of v)) (items_of v) turn.position x e
                ∙ rw (zero_and, ← items_counted v k, ← counted));
          }
      by none e = absurd (some_item (items_of v) turn.position (omega (arith, items_counted v k)) e)

  pub record OneEntry (key_name value_name both : Span) : Type 0 where
    pub key : Text
    pub value : Value
    pub there : nth_entry (entries_of v) turn.position ≡ some (key, value)
    pub begun : begun next (turns_over source (vars.KeyValue key_name value_name both) v) ≡ some (turn_of turn (one_entry (text_at source key_name) (text_at source value_name) key value))

  pub in_one_entry : (key_name value_name both : Span) → kind_of v ≡ Kind.Map → OneEntry key_name value_name both
  in_one_entry key_name value_name both k = by (nth_entry (entries_of v) turn.position) refl
    where
      by : (o : Option (Text × Value)) → nth_entry (entries_of v) turn.position ≡ o → OneEntry key_name value_name both
      by (some x) e =
          let zero_and : 0 + turn.position ≡ turn.position = omega arith in
          record {
            key = x.0;
            value = x.1;
            there = e;
            begun = rw is (entry_turn (text_at source key_name) (text_at source value_name) 0 (count_entries (entries_of v)) (entries_of v) turn.position x.0 x.1 e
                ∙ rw (zero_and, ← entries_counted v k, ← counted));
          }
      by none e = absurd (some_entry (entries_of v) turn.position (omega (arith, entries_counted v k)) e)

  -- whichever its names are
  pub in_one_turn : (names : LoopVars) → kind_of v ≡ iterable_kind names → (current : Current) × (begun next (turns_over source names v) ≡ some (turn_of turn current))
  in_one_turn (vars.Item name) k = let one = in_one_item name k in (one_item (text_at source name) one.value, one.begun)
  in_one_turn (vars.KeyValue key_name value_name both) k =
      let one = in_one_entry key_name value_name both k in (one_entry (text_at source key_name) (text_at source value_name) one.key one.value, one.begun)

-- WHAT IS SEEN OF IT

module _ (v : Var) (outer : List Visible) (next : ℕ) (all : List Turn) where
  pub not_begun : next ≡ 0 → looked_up v (seen (loop_at next all) outer) ≡ looked_up v outer
  not_begun e = rw e

  pub seen_in : (t : Turn) → begun next all ≡ some t → looked_up v (seen (loop_at next all) outer) ≡ or_outward (in_turn v.source.now t v.first.access (members_of v.rest)) (looked_up v outer)
  unfolding look_up
  seen_in t e = rw e

module _ (source : List ℕ) (t : Turn) (ms : List Member) (access : Access) where
  pub index_goes_outward : (n : ℕ) (span : Span) → access ≡ Index n span → in_turn source t access ms ≡ none
  index_goes_outward n span e = rw e

  pub by_name : (span : Span) (is_loop : Bool) → access ≡ Key span → same_text (text_at source (access_span access)) (codes "loop") ≡ is_loop
      → in_turn source t access ms ≡ cond is_loop (some (loop_variable source (loop_value t) ms)) (in_current source t.current (text_at source (access_span access)) ms)
  by_name span is_loop e same = rw e (rw (rw e at same))

-- what is found in the turn, where the access is a name other than `loop`
module _ (before after : Store) (v : Var) (outer : List Visible) (source : List ℕ) (over : Value) (next : ℕ) (turn : code_turn.Turn)
    (is : next ≡ suc turn.position) (counted : turn.length ≡ size_of over) (within : next ≤ size_of over) (names : LoopVars) (kind : kind_of over ≡ iterable_kind names) where
  abbrev outward : Or Fault Had
  outward = looked_up v outer

  abbrev here : Or Fault Had
  here = looked_up v (seen (loop_at next (turns_over source names over)) outer)

  pub seen_by_index : (n : ℕ) (span : Span) → v.first.access ≡ Index n span → here ≡ outward
  seen_by_index n span e =
      let one = in_one_turn source over next turn is counted within names kind in
      seen_in v outer next (turns_over source names over) _ one.1
      ∙ ap (λ o. or_outward o outward) (index_goes_outward v.source.now (turn_of turn one.0) (members_of v.rest) v.first.access n span e)

  module _ (span : Span) (keyed : v.first.access ≡ Key span) (is_loop : Bool) (same : same_text (first_text v) (codes "loop") ≡ is_loop) where
    by : (current : Current) → begun next (turns_over source names over) ≡ some (turn_of turn current)
        → here ≡ or_outward (cond is_loop (some (loop_variable v.source.now (loop_value (turn_of turn current)) (members_of v.rest))) (in_current v.source.now current (first_text v) (members_of v.rest))) outward
    by current e =
        seen_in v outer next (turns_over source names over) _ e
        ∙ ap (λ o. or_outward o outward) (by_name v.source.now (turn_of turn current) (members_of v.rest) v.first.access span is_loop keyed same)

    pub seen_loop : is_loop ≡ true → (r : Result (code_option.Option Ref) code.Fault)
        → ((c : Current) (o : Or Fault Had) → Answers before after v.span (loop_variable v.source.now (loop_value (turn_of turn c)) (members_of v.rest)) o r)
        → Answers before after v.span here outward r
    seen_loop loops r a =
        let one = in_one_turn source over next turn is counted within names kind in
        answers_as before after v.span outward r (by one.0 one.1 ∙ rw loops) (a one.0 outward)

    pub seen_item : is_loop ≡ false → (r : Result (code_option.Option Ref) code.Fault) (name : Span) (item_name : Text) → names ≡ vars.Item name → item_name ≡ text_at source name
        → ((x : Value) → nth (items_of over) turn.position ≡ some x → LooksIn before after v (one_item item_name x) r)
        → Answers before after v.span here outward r
    seen_item other r name item_name named texts a =
        let one = in_one_item source over next turn is counted within name (kind ∙ ap iterable_kind named) in
        let begins : begun next (turns_over source names over) ≡ some (turn_of turn (one_item (text_at source name) one.value)) =
        ap (λ n. begun next (turns_over source n over)) named ∙ one.begun in
        answers_as before after v.span outward r
        (by (one_item (text_at source name) one.value) begins ∙ rw (other, ← texts))
        (a one.value one.there outward)

    pub seen_entry : is_loop ≡ false → (r : Result (code_option.Option Ref) code.Fault) (k w both : Span) (key_name value_name : Text) → names ≡ vars.KeyValue k w both
        → key_name ≡ text_at source k → value_name ≡ text_at source w
        → ((key : Text) (x : Value) → nth_entry (entries_of over) turn.position ≡ some (key, x) → LooksIn before after v (one_entry key_name value_name key x) r)
        → Answers before after v.span here outward r
    seen_entry other r k w both key_name value_name named key_text value_text a =
        let one = in_one_entry source over next turn is counted within k w both (kind ∙ ap iterable_kind named) in
        let begins : begun next (turns_over source names over) ≡ some (turn_of turn (one_entry (text_at source k) (text_at source w) one.key one.value)) =
        ap (λ n. begun next (turns_over source n over)) named ∙ one.begun in
        answers_as before after v.span outward r
        (by (one_entry (text_at source k) (text_at source w) one.key one.value) begins ∙ rw (other, ← key_text, ← value_text))
        (a one.key one.value one.there outward)

-- GOING ON

item_turns_count : (name : Text) (p len : ℕ) (xs : Items) → length (item_turns name p len xs) ≡ count_items xs
item_turns_count name p len no_items = refl
item_turns_count name p len (item v xs) = ap suc (item_turns_count name (suc p) len xs)

entry_turns_count : (key_name value_name : Text) (p len : ℕ) (es : Entries) → length (entry_turns key_name value_name p len es) ≡ count_entries es
entry_turns_count key_name value_name p len no_entries = refl
entry_turns_count key_name value_name p len (entry k v es) = ap suc (entry_turns_count key_name value_name (suc p) len es)

turns_count : (source : List ℕ) (names : LoopVars) (v : Value) → kind_of v ≡ iterable_kind names → length (turns_over source names v) ≡ size_of v
turns_count source (vars.Item name) v k = item_turns_count (text_at source name) 0 (count_items (items_of v)) (items_of v) ∙ sym (items_counted v k)
turns_count source (vars.KeyValue a b both) v k = entry_turns_count (text_at source a) (text_at source b) 0 (count_entries (entries_of v)) (entries_of v) ∙ sym (entries_counted v k)

one_left : {A : Type 0} (xs : List A) (n : ℕ) → n < length xs → (x : A) × (drop n xs ≡ x ∷ drop (suc n) xs) × (get_elem? xs n ≡ some x)
one_left [] n h = absurd (omega arith)
one_left (x ∷ xs) zero h = (x, refl, refl)
one_left (x ∷ xs) (suc n) h = one_left xs n (omega arith)

module _ (source : List ℕ) (names : LoopVars) (v : Value) (next : ℕ) (kind : kind_of v ≡ iterable_kind names) where
  pub goes_on : (after : ℕ) → next < size_of v → after ≡ next + 1 → GoesOn (loop_at next (turns_over source names v)) (loop_at after (turns_over source names v))
  goes_on after h is =
      let all = turns_over source names v in
      let one = one_left all next (omega (arith, turns_count source names v kind)) in
      let then : after ≡ suc next = omega arith in
      record {
        current = begun next all;
        turn = one.0;
        left = drop (suc next) all;
        was = ap (a_loop (begun next all)) one.1;
        means = ap (λ n. loop_at n all) then ∙ ap (λ t. a_loop t (drop (suc next) all)) one.2;
      }

  pub at_end : size_of v ≤ next → AtEnd (loop_at next (turns_over source names v))
  at_end h =
      let all = turns_over source names v in
      record { current = begun next all; was = ap (a_loop (begun next all)) (drop_all next all (omega (arith, turns_count source names v kind))) }
