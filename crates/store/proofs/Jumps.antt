-- What a jump leads to begins what jumps.
use Rattle.std.proofs.Common.{◌≡◌, ℕ, zero, suc, ◌<◌, ◌≤◌, Bool, true, false, ◌||◌, eqb, List, [], ◌∷◌, ◌++◌, length, get_or, take, sym, refl, ap, ◌∙◌, le_refl, le_trans, arith}
use mathlib.Core.Option.{Option, none, some}
use Rattle.std.proofs.lemmas.List.{append-nil, append_assoc, get_or-take, get_or_default, take-take}
use Rattle.std.proofs.lemmas.Bool.{and_parts, and_from, cond-false, eqb-true}
use Rattle.meaning.specs.Parts.{append, insert}
use Rattle.meaning.specs.Value.{Value, Items, Entries, Text, none as none_value, list, map}
use Rattle.store.specs.Cells.{Sound, meanings}
use Rattle.store.specs.Jumps.{jump_of, jump_at, jumps_from, jumps, jump_above, Jumping, Begins}
use Rattle.store.specs.Shown.{Shows}
use Rattle.store.specs.Stores.{Height, cells_of, charged, used, values_of}
use Rattle.store.specs.Supplied.{Supplied}
use Rattle.store.specs.Values.{any_above, above_all}
use Rattle.store.specs.declared.cell.Cell.{Cell}
use Rattle.store.specs.declared.cell.Cell.TheVariants.{Boolean, Integer, Float, String, EmptyList, Push, EmptyMap, Insert}
use Rattle.store.specs.declared.memory.Store.{Store}
use Rattle.store.specs.declared.memory.Tally.{Tally}
use Rattle.store.proofs.Cells.{shows, sound_at}
use Rattle.store.proofs.Keys.{precedes_differs}
use Rattle.store.proofs.Lists.{count_append, nth_low}
use Rattle.store.proofs.Maps.{value_of_insert, count_last, nth_under_last, first_under_last, under_last}
use Rattle.store.proofs.Stores.{cells_count}

-- WHAT BEGINS WHAT

begins_itself : (v : Value) → Begins v v
begins_itself v = record { sizes = le_refl _; parts = λ n h. refl; entries = λ n h. refl; keys = λ k h. refl; firsts = λ b h. refl }

begins_trans : (u v w : Value) → Begins u v → Begins v w → Begins u w
begins_trans u v w a b = record {
  sizes = le_trans a.sizes b.sizes;
  parts = λ n h. b.parts n (omega (arith, a.sizes)) ∙ a.parts n h;
  entries = λ n h. b.entries n (omega (arith, a.sizes)) ∙ a.entries n h;
  keys = λ k h. b.keys k (above (some k) h) ∙ a.keys k h;
  firsts = λ bound h. b.firsts bound (above bound h) ∙ a.firsts bound h;
}
  where
    above : (bound : Option Text) → any_above u bound ≡ true → any_above v bound ≡ true
    above bound h = ap (λ (o : Option (Text × Value)). elim o [ none ↦ false | some e ↦ true ]) (a.firsts bound h) ∙ h

list_begins : (xs : Items) (v : Value) → Begins (list xs) (list (append xs v))
list_begins xs v = record {
  sizes = omega (arith, count_append xs v);
  parts = λ n h. nth_low xs v n h;
  entries = λ n h. refl;
  keys = λ k h. refl;
  firsts = λ b h. refl;
}

map_begins : (es : Entries) (k : Text) (v : Value) → above_all k es ≡ true → Begins (map es) (map (insert k v es))
map_begins es k v last = record {
  sizes = omega (arith, count_last es k v last);
  parts = λ n h. refl;
  entries = λ n h. nth_under_last es k v n last h;
  keys = λ q h. value_of_insert es k q v ∙ cond-false _ _ _ (precedes_differs q k (under_last es k q last h));
  firsts = λ b h. first_under_last es k v b last h;
}

begins_as : {v w v' w' : Value} → v' ≡ v → w' ≡ w → Begins v w → Begins v' w'
begins_as e f b = rw (e, f) b

-- CELLS THAT JUMP

-- the cell with the number i jumps down, to a beginning of itself
pub record JumpsDown (ms : List Value) (i : ℕ) (c : Cell) : Type 0 where
  pub low : jump_of c i ≤ i
  pub begins : Begins (get_or ms (jump_of c i) none_value) (get_or ms i none_value)

module _ (ms : List Value) (cs : List Cell) (i : ℕ) (again : (k : ℕ) → k < i → JumpsDown ms k (get_or cs k EmptyList)) where
  jump_take : (k : ℕ) → k < i → jump_at (take i cs) k ≡ jump_at cs k
  jump_take k l = ap (λ (c : Cell). jump_of c k) (get_or-take i cs k EmptyList l)

  from : (front jump : ℕ) → front < i → Begins (get_or ms front none_value) (get_or ms i none_value) → jumps_from (take i cs) front jump ≡ true → (jump ≤ i) × Begins (get_or ms jump none_value) (get_or ms i none_value)
  from front jump l b h = by (eqb jump front) refl h
    where
      near : JumpsDown ms front (get_or cs front EmptyList)
      near = again front l

      far : JumpsDown ms (jump_at cs front) (get_or cs (jump_at cs front) EmptyList)
      far = again (jump_at cs front) (omega (arith, near.low))

      two : jump_at (take i cs) (jump_at (take i cs) front) ≡ jump_at cs (jump_at cs front)
      two = ap (jump_at (take i cs)) (jump_take front l) ∙ jump_take (jump_at cs front) (omega (arith, near.low))

      by : (o : Bool) → eqb jump front ≡ o → (o || eqb jump (jump_at (take i cs) (jump_at (take i cs) front))) ≡ true → (jump ≤ i) × Begins (get_or ms jump none_value) (get_or ms i none_value)
      by true e h = let same = eqb-true _ _ e in (omega arith, rw same b)
      by false e h =
          let same : jump ≡ jump_at cs (jump_at cs front) = eqb-true _ _ h ∙ two in
          (omega (arith, near.low, far.low), rw same (begins_trans _ _ _ far.begins (begins_trans _ _ _ near.begins b)))

  down_from : (t : Text) (c : Cell) → Shows t i ms (get_or ms i none_value) c → jumps (take i cs) c ≡ true → JumpsDown ms i c
  down_from t (Boolean b) p h = record { low = le_refl _; begins = begins_itself _ }
  down_from t (Integer n) p h = record { low = le_refl _; begins = begins_itself _ }
  down_from t (Float b) p h = record { low = le_refl _; begins = begins_itself _ }
  down_from t (String s) p h = record { low = le_refl _; begins = begins_itself _ }
  down_from t EmptyList p h = record { low = le_refl _; begins = begins_itself _ }
  down_from t (Push front part len jump) p h =
      let d = from front jump p.low (begins_as p.front_is p.value_is (list_begins _ _)) h in
      record { low = d.0; begins = d.1 }
  down_from t EmptyMap p h = record { low = le_refl _; begins = begins_itself _ }
  down_from t (Insert front key part len jump true) p h =
      let d = from front jump p.low (begins_as p.front_is p.value_is (map_begins _ _ _ (p.last refl))) h in
      record { low = d.0; begins = d.1 }
  down_from t (Insert front key part len jump false) p h = record { low = le_refl _; begins = begins_itself _ }

-- the cell i jumps as the test says, over those below it
jump_read : (ds cs : List Cell) (i : ℕ) (d : Cell) → jump_above ds cs ≡ true → i < length cs → jumps (ds ++ take i cs) (get_or cs i d) ≡ true
jump_read ds [] i d h l = absurd (omega arith)
jump_read ds (c ∷ cs) zero d h l = rw (append-nil ds) (and_parts _ _ h).0
jump_read ds (c ∷ cs) (suc i) d h l = rw (← append_assoc ds (c ∷ []) (take i cs)) (jump_read (ds ++ (c ∷ [])) cs i d (and_parts _ _ h).1 (omega arith))

pub jumps_down : (t : Text) (cs : List Cell) → Sound t cs → Jumping cs → (n i : ℕ) → i < n → i < length cs → JumpsDown (meanings t cs) i (get_or cs i EmptyList)
jumps_down t cs s j zero i l m = absurd (omega arith)
jumps_down t cs s j (suc n) i l m =
    down_from (meanings t cs) cs i (λ k b. jumps_down t cs s j n k (omega arith) (omega arith)) t (get_or cs i EmptyList)
    (shows t cs i (get_or cs i EmptyList) s m (get_or_default cs i EmptyList (get_or cs i EmptyList) m))
    (jump_read [] cs i EmptyList j m)

-- ONE CELL ON TOP, AND BACK TO A HEIGHT

jump_append : (ds cs es : List Cell) → jump_above ds cs ≡ true → jump_above (ds ++ cs) es ≡ true → jump_above ds (cs ++ es) ≡ true
jump_append ds [] es h g = rw (append-nil ds) at g
jump_append ds (c ∷ cs) es h g =
    let p = and_parts _ _ h in
    and_from _ _ p.0 (jump_append (ds ++ (c ∷ [])) cs es p.1 (rw (append_assoc ds (c ∷ []) cs) g))

pub jumping_more : (cs : List Cell) (c : Cell) → Jumping cs → jumps cs c ≡ true → Jumping (cs ++ (c ∷ []))
jumping_more cs c h g = jump_append [] cs (c ∷ []) h (and_from _ _ g refl)

jump_under : (ds : List Cell) (n : ℕ) (cs : List Cell) → jump_above ds cs ≡ true → jump_above ds (take n cs) ≡ true
jump_under ds zero cs h = refl
jump_under ds (suc n) [] h = refl
jump_under ds (suc n) (c ∷ cs) h =
    let p = and_parts _ _ h in
    and_from _ _ p.0 (jump_under (ds ++ (c ∷ [])) n cs p.1)

pub jumping_at : (cs cs' : List Cell) → cs' ≡ cs → Jumping cs → Jumping cs'
jumping_at cs cs' e h = rw e h

-- IN A STORE

pub memory_is : (s : Store) (i : ℕ) (d : Cell) → i < (used s).cells → get_or s.cells.now i d ≡ get_or (cells_of s) i EmptyList
memory_is s i d l =
    let low : i < length s.cells.now = omega (arith, s.supplied.cells_fit) in
    get_or_default s.cells.now i d EmptyList low ∙ sym (get_or-take (used s).cells s.cells.now i EmptyList l)

pub memory_jumps : (s : Store) (i : ℕ) (d : Cell) → i < (used s).cells → JumpsDown (values_of s) i (get_or s.cells.now i d)
memory_jumps s i d l = rw (memory_is s i d l) (jumps_down _ (cells_of s) s.supplied.sound s.supplied.jumping (suc i) i (omega arith) (rw (cells_count s) l))

pub memory_begins : (s : Store) (i : ℕ) (d : Cell) → i < (used s).cells → Begins (get_or (values_of s) (jump_of (get_or s.cells.now i d) i) none_value) (get_or (values_of s) i none_value)
memory_begins s i d l = (memory_jumps s i d l).begins

-- the memory of a store that is put back to a height
pub supplied_under : (s : Store) (mark : Tally) → Height s (charged mark) → Supplied s.cells.now s.text.now mark
supplied_under s mark h =
    let cells = take-take mark.cells s.tally.now.cells s.cells.now h.cells_low in
    let text = take-take mark.bytes s.tally.now.bytes s.text.now h.bytes_low in
    record {
      sound = sound_at (sym text) (sym cells) h.sound;
      jumping = jumping_at _ _ (sym cells) (jump_under [] mark.cells (cells_of s) s.supplied.jumping);
      cells_fit = (omega (arith, h.cells_low, s.supplied.cells_fit), omega (arith, h.cells_low, s.supplied.cells_fit));
      bytes_fit = (omega (arith, h.bytes_low, s.supplied.bytes_fit), omega (arith, h.bytes_low, s.supplied.bytes_fit));
    }
