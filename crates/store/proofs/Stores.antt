-- What changes of a store come to: one cell more, one change after another, and back to a height.
use Rattle.std.proofs.Common.{◌≡◌, ℕ, ◌+◌, ◌<◌, ◌≤◌, min, Bool, true, cond, not, ◌||◌, leb, List, [], ◌∷◌, ◌++◌, length, get_or, take, Some, None, Ok, Err, Result, sym, refl, ap, ◌∙◌, subst, le_trans, arith}
use mathlib.Core.Option.{Option, none, some}
use native.Mathlib.Nat.{min-le_left, min-le_right}
use Rattle.std.proofs.lemmas.List.{length-take, length-take-le, take_at, take-take, take_all, get_or_default, get_or-take}
use Rattle.std.proofs.lemmas.Bool.{and_parts, leb-true, lt-ltb, ltb-true}
use Rattle.std.specs.declared.option.Option as code
use Rattle.meaning.specs.Charge.{Charge, ◌⊕◌, cell_and_text, within}
use Rattle.meaning.specs.Value.{Value, Entries, Text, none as none_value, map}
use Rattle.store.specs.Values.{entry_in, goes_last, has_entries, inserted, ascends}
use Rattle.store.specs.Cells.{of_ref, of_cell, meanings, fits}
use Rattle.store.specs.Kinds.{kind_of, size_of}
use Rattle.store.specs.Shown.{Shows}
use Rattle.store.specs.Stores.{Known, Found, SameMemory, Over, Height, Freed, PutBack, Grown, Added, Made, used, supply, cells_of, text_of, value, values_of}
use Rattle.store.specs.declared.cell.Cell.{Cell}
use Rattle.store.specs.declared.cell.Cell.TheVariants.{EmptyList}
use Rattle.store.specs.declared.kinds.Kind.{Kind}
use Rattle.store.specs.declared.cell.Ref.{Ref}
use Rattle.store.specs.declared.cell.Ref.TheVariants.{None as Nothing, At}
use Rattle.store.specs.declared.memory.Full.{Full}
use Rattle.store.specs.declared.memory.Store.{Store}
use Rattle.store.proofs.Cells.{Agree, Extended, extended, shows, map_shown, sound_at, persist}
use Rattle.store.proofs.Lists.{inserted_counts, last_counts}
use Rattle.store.proofs.Maps.{is_some}

-- CHARGES

pub charge_is : {a b : Charge} → a.cells ≡ b.cells → a.bytes ≡ b.bytes → a ≡ b
charge_is {a} {b} e f = λ i. record { cells = e i; bytes = f i }

pub cells_paid : {a b : Charge} → a ≡ b → a.cells ≡ b.cells
cells_paid {a} {b} e = ap (λ (c : Charge). c.cells) e

pub bytes_paid : {a b : Charge} → a ≡ b → a.bytes ≡ b.bytes
bytes_paid {a} {b} e = ap (λ (c : Charge). c.bytes) e

-- as many cells and bytes lie in use as the tally says
pub cells_count : (s : Store) → length (cells_of s) ≡ (used s).cells
cells_count s = length-take-le (used s).cells s.cells.now s.supplied.cells_fit.0

pub text_count : (s : Store) → length (text_of s) ≡ (used s).bytes
text_count s = length-take-le (used s).bytes s.text.now s.supplied.bytes_fit.0

-- what it says that the supply holds a charge
pub record Room (s : Store) (more : Charge) : Type 0 where
  pub cells : (used s).cells + more.cells ≤ length s.cells.now
  pub few_cells : (used s).cells + more.cells ≤ 65535
  pub bytes : (used s).bytes + more.bytes ≤ length s.text.now
  pub few_bytes : (used s).bytes + more.bytes ≤ 65535

pub room : (s : Store) (more : Charge) → within (supply s) (used s ⊕ more) ≡ true → Room s more
room s more h =
    let p = and_parts (leb ((used s).cells + more.cells) (supply s).cells) _ h in
    let cells : (used s).cells + more.cells ≤ min 65535 (length s.cells.now) = leb-true _ _ p.0 in
    let bytes : (used s).bytes + more.bytes ≤ min 65535 (length s.text.now) = leb-true _ _ p.1 in
    record {
      cells = le_trans cells (min-le_right 65535 (length s.cells.now));
      few_cells = le_trans cells (min-le_left 65535 (length s.cells.now));
      bytes = le_trans bytes (min-le_right 65535 (length s.text.now));
      few_bytes = le_trans bytes (min-le_left 65535 (length s.text.now));
    }

-- ONE CELL MORE

-- a cell and its bytes were put on top of a store
pub record Puts (before after : Store) (c : Cell) (more : Text) : Type 0 where
  pub memory : SameMemory before after
  pub paid : used after ≡ used before ⊕ cell_and_text more
  pub cells : cells_of after ≡ cells_of before ++ (c ∷ [])
  pub text : text_of after ≡ text_of before ++ more
  pub fit : fits (text_of before ++ more) (used before).cells (values_of before) c ≡ true

pub store_extended : (s : Store) (c : Cell) (more : Text) → fits (text_of s ++ more) (used s).cells (values_of s) c ≡ true → Extended (text_of s) more (cells_of s) c
store_extended s c more f = extended (text_of s) more (cells_of s) c s.supplied.sound (rw (cells_count s) f)

refs_keep : (s : Store) (vs : List Value) (r : Ref) → Agree (length (cells_of s)) (values_of s) vs → Known s r → of_ref vs r ≡ value s r
refs_keep s vs Nothing a k = refl
refs_keep s vs (At i) a k = a i (omega (arith, ltb-true _ _ k, cells_count s))

pub puts_added : (before after : Store) (c : Cell) (more : Text) (at : ℕ) → Puts before after c more → at ≡ (used before).cells → Added before after (cell_and_text more) (of_cell (text_of before ++ more) (values_of before) c) (At at)
puts_added before after c more at p here =
    let e = store_extended before c more p.fit in
    record {
      grown = record {
        over = record {
          memory = p.memory;
          cells_under = rw p.cells (take_at (cells_of before) (c ∷ []) _ (cells_count before));
          text_under = rw p.text (take_at (text_of before) more _ (text_count before));
          keeps = λ r k. rw (p.cells, p.text) (refs_keep before _ r e.keeps k);
        };
        paid = p.paid;
      };
      known = lt-ltb _ _ (omega (arith, cells_paid p.paid));
      means = rw (p.cells, p.text) (ap (λ (n : ℕ). get_or (meanings (text_of before ++ more) (cells_of before ++ (c ∷ []))) n none_value) (here ∙ sym (cells_count before)) ∙ e.top);
    }

pub added_as : {before after : Store} {more : Charge} {v w : Value} {r : Ref} → v ≡ w → Added before after more v r → Added before after more w r
added_as {before} {after} {more} {v} {w} {r} e a = record { grown = a.grown; known = a.known; means = a.means ∙ e }

-- READING

pub store_shows : (s : Store) (i : ℕ) (c : Cell) → i < (used s).cells → c ≡ get_or (cells_of s) i c → Shows (text_of s) i (values_of s) (get_or (values_of s) i none_value) c
store_shows s i c l e = shows (text_of s) (cells_of s) i c s.supplied.sound (rw (cells_count s) l) e

-- what stands at a place of the memory that is in use
pub memory_shows : (s : Store) (i : ℕ) (d : Cell) → i < (used s).cells → Shows (text_of s) i (values_of s) (get_or (values_of s) i none_value) (get_or s.cells.now i d)
memory_shows s i d l =
    let c = get_or s.cells.now i d in
    let low : i < length s.cells.now = omega (arith, s.supplied.cells_fit) in
    store_shows s i c l (get_or_default s.cells.now i d c low ∙ sym (get_or-take (used s).cells s.cells.now i c l))

pub known_at : (s : Store) {r : Ref} {i : ℕ} → r ≡ At i → Known s r → i < (used s).cells
known_at s {r} {i} e k = ltb-true i (used s).cells (subst (Known s) e k)

-- the map in a cell in use
pub store_map : (s : Store) (i : ℕ) → i < (used s).cells → kind_of (get_or (values_of s) i none_value) ≡ Kind.Map → (es : Entries) × (get_or (values_of s) i none_value ≡ map es) × (ascends es ≡ true)
store_map s i l k =
    let c = get_or (cells_of s) i EmptyList in
    let low : i < length (cells_of s) = omega (arith, cells_count s) in
    map_shown (text_of s) i (values_of s) _ c (store_shows s i c l (get_or_default (cells_of s) i EmptyList c low)) k

abbrev is_there : {A : Type 0} → code.Option A → mathlib.Core.Bool.Bool
is_there None = mathlib.Core.Bool.false
is_there (Some a) = true

-- a search and its answer agree on whether something was found
found_same : (s : Store) (o : Option Value) (r : code.Option Ref) → Found s o r → is_some o ≡ is_there r
found_same s (some v) (Some r) h = refl
found_same s (some v) None h = absurd h
found_same s none (Some r) h = absurd h
found_same s none None h = refl

-- the count of a map with the key in it
pub counts_with : (s : Store) (i : ℕ) (k : Text) (r : code.Option Ref) (n : ℕ) → i < (used s).cells → kind_of (get_or (values_of s) i none_value) ≡ Kind.Map → Found s (entry_in (get_or (values_of s) i none_value) k) r → n ≡ size_of (get_or (values_of s) i none_value) + cond (is_there r) 0 1 → (v : Value) → has_entries n (inserted (get_or (values_of s) i none_value) k v) ≡ true
counts_with s i k r n l m f e v =
    let p = store_map s i l m in
    let g = get_or (values_of s) i none_value in
    rw (e, ← found_same s (entry_in g k) r f) (inserted_counts g p.0 k v p.1 p.2)

-- the count of a map with a key above all others
pub counts_last : (s : Store) (i : ℕ) (k : Text) (last : Bool) (n : ℕ) → i < (used s).cells → kind_of (get_or (values_of s) i none_value) ≡ Kind.Map → (not last || goes_last k (get_or (values_of s) i none_value)) ≡ true → last ≡ true → n ≡ size_of (get_or (values_of s) i none_value) + 1 → (v : Value) → has_entries n (inserted (get_or (values_of s) i none_value) k v) ≡ true
counts_last s i k last n l m g t e v =
    let p = store_map s i l m in
    let f = get_or (values_of s) i none_value in
    rw e (last_counts f p.0 k v p.1 p.2 (rw t at g))

-- BACK TO A HEIGHT

-- what was grown from a store can be put back to it
pub over_height : (old s : Store) → Over old s → Height s (used old)
over_height old s o = record {
  cells_low = omega (arith, ap length o.cells_under, length-take (used old).cells (cells_of s), cells_count s, cells_count old);
  bytes_low = omega (arith, ap length o.text_under, length-take (used old).bytes (text_of s), text_count s, text_count old);
  sound = sound_at o.text_under o.cells_under old.supplied.sound;
}

pub same_memory_trans : (a b c : Store) → SameMemory a b → SameMemory b c → SameMemory a c
same_memory_trans a b c p q = record {
  cells = q.cells ∙ p.cells;
  text = q.text ∙ p.text;
  tally = q.tally ∙ p.tally;
  cells_long = q.cells_long ∙ p.cells_long;
  text_long = q.text_long ∙ p.text_long;
}

pub freed_back : (old s new : Store) → Over old s → Freed s new (used old) → PutBack old new
freed_back old s new o f = record {
  memory = same_memory_trans old s new o.memory f.memory;
  tally = f.at_height;
  cells = f.cells_kept ∙ o.cells_under;
  text = f.text_kept ∙ o.text_under;
}

-- a store that another was cut back to has what its references stand for
under_keeps : (old s : Store) (at : Charge) → cells_of old ≡ take at.cells (cells_of s) → text_of old ≡ take at.bytes (text_of s) → (r : Ref) → Known old r → value s r ≡ value old r
under_keeps old s at e f r k =
    let low = sound_at (sym f) (sym e) old.supplied.sound in
    let agree = persist (text_of s) (cells_of s) at.bytes at.cells low in
    refs_keep old (values_of s) r (rw (e, f) agree) k

pub freed : (before after : Store) (at : Charge) → SameMemory before after → used after ≡ at → cells_of after ≡ take at.cells (cells_of before) → text_of after ≡ take at.bytes (text_of before) → Freed before after at
freed before after at m u e f = record {
  memory = m;
  at_height = u;
  cells_kept = e;
  text_kept = f;
  keeps = λ r k. sym (under_keeps after before at e f r k);
}

-- ONE CHANGE AFTER ANOTHER

-- what is known of a store is known of one with more on top
pub known_over : (a b : Store) (r : Ref) → Over a b → Known a r → Known b r
known_over a b r o k = more (over_height a b o).cells_low r k
  where
    more : (used a).cells ≤ (used b).cells → (r : Ref) → Known a r → Known b r
    more l Nothing k = refl
    more l (At i) k = lt-ltb _ _ (omega (arith, ltb-true _ _ k))

take_under : {A : Type 0} (m n : ℕ) (xs ys zs : List A) → m ≤ n → take n zs ≡ ys → take m ys ≡ xs → take m zs ≡ xs
take_under m n xs ys zs l e f = sym (take-take m n zs l) ∙ ap (take m) e ∙ f

pub over_trans : (a b c : Store) → Over a b → Over b c → Over a c
over_trans a b c o p =
    let h = over_height a b o in
    record {
      memory = same_memory_trans a b c o.memory p.memory;
      cells_under = take_under (used a).cells (used b).cells _ _ _ h.cells_low p.cells_under o.cells_under;
      text_under = take_under (used a).bytes (used b).bytes _ _ _ h.bytes_low p.text_under o.text_under;
      keeps = λ r k. p.keeps r (known_over a b r o k) ∙ o.keeps r k;
    }

pub over_itself : (a : Store) → Over a a
over_itself a = record {
  memory = record { cells = refl; text = refl; tally = refl; cells_long = refl; text_long = refl };
  cells_under = take_all (used a).cells (cells_of a) (omega (arith, cells_count a));
  text_under = take_all (used a).bytes (text_of a) (omega (arith, text_count a));
  keeps = λ r k. refl;
}

pub over_same : (a b : Store) → b ≡ a → Over a b
over_same a b e = subst (Over a) (sym e) (over_itself a)

-- one charge after another
pub grown_trans : (a b c : Store) {m n : Charge} → Grown a b m → Grown b c n → Grown a c (m ⊕ n)
grown_trans a b c {m} {n} g h = record {
  over = over_trans a b c g.over h.over;
  paid = charge_is (omega (arith, cells_paid g.paid, cells_paid h.paid)) (omega (arith, bytes_paid g.paid, bytes_paid h.paid));
}

-- whether a value was made or not, what was there is there
pub made_over : (a b : Store) (more : Charge) (v : Value) (r : Result Ref Full) → Made a b more v r → Over a b
made_over a b more v (Ok r) m = m.1.grown.over
made_over a b more v (Err full) m = over_same a b m.1
