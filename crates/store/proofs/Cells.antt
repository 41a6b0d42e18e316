-- What cells stand for does not change when others are added above them.
use Rattle.std.proofs.Common.{◌≡◌, ℕ, zero, suc, ◌+◌, ◌-◌, ◌<◌, ◌≤◌, Bool, true, not, ◌||◌, ltb, leb, List, [], ◌∷◌, ◌++◌, length, get_or, take, drop, sym, refl, ap, ◌∙◌, add-zero, zero-add, arith, length-append, length-drop}
use Rattle.std.proofs.lemmas.List.{get_or_append_left, length_push, get_or_push, take-append-le, drop-append-le, drop_at, drop-take, take_all, take-append-drop, take-take}
use Rattle.std.proofs.lemmas.Bool.{and_parts, and_from, leb-true, ltb-true, le-leb, lt-ltb}
use Rattle.meaning.specs.Value.{Value, Entries, Text, none, string, map, no_entries}
use Rattle.store.specs.Values.{pushed, inserted, has_parts, has_entries, goes_last, ascends}
use Rattle.store.specs.Cells.{at_span, of_ref, of_cell, above, meanings, below, inside, fits, fit_above, Sound}
use Rattle.store.specs.Shown.{Shows}
use Rattle.store.specs.Kinds.{kind_of}
use Rattle.store.specs.declared.kinds.Kind.{Kind}
use Rattle.store.specs.declared.cell.TextSpan.{TextSpan}
use Rattle.store.specs.declared.cell.Ref.{Ref}
use Rattle.store.specs.declared.cell.Ref.TheVariants.{None, At}
use Rattle.store.specs.declared.cell.Cell.{Cell}
use Rattle.store.specs.declared.cell.Cell.TheVariants.{Boolean, Integer, Float, String, EmptyList, Push, EmptyMap, Insert}
use Rattle.store.proofs.Lists.{pushed_list, inserted_map}

-- WHAT IT SAYS THAT A CELL FITS

pub record PushFits (i : ℕ) (vs : List Value) (front : ℕ) (part : Ref) (len jump : ℕ) : Type 0 where
  pub low : front < i
  pub jump_low : jump < i
  pub short : len ≤ i
  pub part_low : below i part ≡ true
  pub counted : has_parts len (pushed (get_or vs front none) (of_ref vs part)) ≡ true

module _ (t : Text) (i : ℕ) (vs : List Value) (front : ℕ) (part : Ref) (len jump : ℕ) where
  pub push_fits : fits t i vs (Push front part len jump) ≡ true → PushFits i vs front part len jump
  push_fits h =
      let p = and_parts (ltb front i) _ h in
      let j = and_parts (ltb jump i) _ p.1 in
      let s = and_parts (leb len i) _ j.1 in
      let q = and_parts (below i part) _ s.1 in
      record { low = ltb-true _ _ p.0; jump_low = ltb-true _ _ j.0; short = leb-true _ _ s.0; part_low = q.0; counted = q.1 }

pub record InsertFits (t : Text) (i : ℕ) (vs : List Value) (front : ℕ) (key : TextSpan) (part : Ref) (len jump : ℕ) (sorted : Bool) : Type 0 where
  pub low : front < i
  pub jump_low : jump < i
  pub short : len ≤ i
  pub part_low : below i part ≡ true
  pub key_inside : inside (length t) key ≡ true
  pub counted : has_entries len (inserted (get_or vs front none) (at_span t key) (of_ref vs part)) ≡ true
  pub last : (not sorted || goes_last (at_span t key) (get_or vs front none)) ≡ true

module _ (t : Text) (i : ℕ) (vs : List Value) (front : ℕ) (key : TextSpan) (part : Ref) (len jump : ℕ) (sorted : Bool) where
  pub insert_fits : fits t i vs (Insert front key part len jump sorted) ≡ true → InsertFits t i vs front key part len jump sorted
  insert_fits h =
      let p = and_parts (ltb front i) _ h in
      let j = and_parts (ltb jump i) _ p.1 in
      let s = and_parts (leb len i) _ j.1 in
      let q = and_parts (below i part) _ s.1 in
      let r = and_parts (inside (length t) key) _ q.1 in
      let c = and_parts (has_entries len (inserted (get_or vs front none) (at_span t key) (of_ref vs part))) _ r.1 in
      record {
        low = ltb-true _ _ p.0;
        jump_low = ltb-true _ _ j.0;
        short = leb-true _ _ s.0;
        part_low = q.0;
        key_inside = r.0;
        counted = c.0;
        last = c.1;
      }

  pub fits_insert : InsertFits t i vs front key part len jump sorted → fits t i vs (Insert front key part len jump sorted) ≡ true
  fits_insert p =
      and_from (ltb front i) _ (lt-ltb _ _ p.low)
      (and_from (ltb jump i) _ (lt-ltb _ _ p.jump_low)
      (and_from (leb len i) _ (le-leb _ _ p.short)
      (and_from (below i part) _ p.part_low
      (and_from (inside (length t) key) _ p.key_inside
      (and_from (has_entries len (inserted (get_or vs front none) (at_span t key) (of_ref vs part))) _ p.counted p.last)))))

-- MORE CELLS, MORE TEXT

pub above_append : (t : Text) (vs : List Value) (cs ds : List Cell) → above t vs (cs ++ ds) ≡ above t (above t vs cs) ds
above_append t vs [] ds = refl
above_append t vs (c ∷ cs) ds = above_append t (vs ++ (of_cell t vs c ∷ [])) cs ds

pub length_above : (t : Text) (vs : List Value) (cs : List Cell) → length (above t vs cs) ≡ length vs + length cs
length_above t vs [] = omega arith
length_above t vs (c ∷ cs) = omega (arith, length_above t (vs ++ (of_cell t vs c ∷ [])) cs, length_push vs (of_cell t vs c))

-- two lists of values agree on the lowest n
abbrev pub Agree : ℕ → List Value → List Value → Type 0
Agree n vs ws = (k : ℕ) → k < n → get_or ws k none ≡ get_or vs k none

pub above_keeps : (t : Text) (vs : List Value) (cs : List Cell) → Agree (length vs) vs (above t vs cs)
above_keeps t vs [] k h = refl
above_keeps t vs (c ∷ cs) k h =
    above_keeps t (vs ++ (of_cell t vs c ∷ [])) cs k (omega (arith, length_push vs (of_cell t vs c)))
    ∙ get_or_append_left vs (of_cell t vs c ∷ []) none k h

-- what the lowest cells stand for, once others lie above them
pub persist_cells : (t : Text) (cs ds : List Cell) → Agree (length cs) (meanings t cs) (meanings t (cs ++ ds))
persist_cells t cs ds k h =
    ap (λ (ws : List Value). get_or ws k none) (above_append t [] cs ds)
    ∙ above_keeps t (meanings t cs) ds k (omega (arith, length_above t [] cs))

span_keeps : (t more : Text) (s : TextSpan) → inside (length t) s ≡ true → at_span (t ++ more) s ≡ at_span t s
span_keeps t more s h =
    let end : s.start + s.len ≤ length t = leb-true _ _ h in
    let from : s.start ≤ length t = omega arith in
    let long : s.len ≤ length (drop s.start t) = omega (arith, length-drop s.start t) in
    rw (drop-append-le, take-append-le)

inside_more : (t more : Text) (s : TextSpan) → inside (length t) s ≡ true → inside (length (t ++ more)) s ≡ true
inside_more t more s h = le-leb _ _ (omega (arith, leb-true _ _ h, length-append t more))

-- more text above changes no cell, and each still fits
cell_keeps : (t more : Text) (i : ℕ) (vs : List Value) (c : Cell) → fits t i vs c ≡ true → (of_cell (t ++ more) vs c ≡ of_cell t vs c) × (fits (t ++ more) i vs c ≡ true)
cell_keeps t more i vs (Boolean b) h = (refl, refl)
cell_keeps t more i vs (Integer n) h = (refl, refl)
cell_keeps t more i vs (Float b) h = (refl, refl)
cell_keeps t more i vs (String s) h = (ap string (span_keeps t more s h), inside_more t more s h)
cell_keeps t more i vs EmptyList h = (refl, refl)
cell_keeps t more i vs (Push front part len jump) h = (refl, h)
cell_keeps t more i vs EmptyMap h = (refl, refl)
cell_keeps t more i vs (Insert front key part len jump sorted) h =
    let p = insert_fits t i vs front key part len jump sorted h in
    let e = span_keeps t more key p.key_inside in (
      rw e,
      fits_insert (t ++ more) i vs front key part len jump sorted record {
        low = p.low;
        jump_low = p.jump_low;
        short = p.short;
        part_low = p.part_low;
        key_inside = inside_more t more key p.key_inside;
        counted = rw e p.counted;
        last = rw e p.last;
      },
    )

-- what cells stand for, once more text lies above theirs
pub persist_text : (t more : Text) (vs : List Value) (cs : List Cell) → fit_above t vs cs ≡ true → (above (t ++ more) vs cs ≡ above t vs cs) × (fit_above (t ++ more) vs cs ≡ true)
persist_text t more vs [] h = (refl, refl)
persist_text t more vs (c ∷ cs) h =
    let p = and_parts _ _ h in
    let here = cell_keeps t more (length vs) vs c p.0 in
    let rest = persist_text t more (vs ++ (of_cell t vs c ∷ [])) cs p.1 in
    (rw here.0 rest.0, rw here.0 (and_from _ _ here.1 rest.1))

ref_agrees : (n : ℕ) (vs ws : List Value) (r : Ref) → Agree n vs ws → below n r ≡ true → of_ref ws r ≡ of_ref vs r
ref_agrees n vs ws None a h = refl
ref_agrees n vs ws (At k) a h = a k (ltb-true _ _ h)

-- a cell stands for the same, and still fits, where the values below it agree
cell_agrees : (t : Text) (i : ℕ) (vs ws : List Value) (c : Cell) → Agree i vs ws → fits t i vs c ≡ true → (of_cell t ws c ≡ of_cell t vs c) × (fits t i ws c ≡ true)
cell_agrees t i vs ws (Boolean b) a h = (refl, refl)
cell_agrees t i vs ws (Integer k) a h = (refl, refl)
cell_agrees t i vs ws (Float b) a h = (refl, refl)
cell_agrees t i vs ws (String s) a h = (refl, h)
cell_agrees t i vs ws EmptyList a h = (refl, refl)
cell_agrees t i vs ws (Push front part len jump) a h =
    let p = push_fits t i vs front part len jump h in
    let e = a front p.low in
    let f = ref_agrees i vs ws part a p.part_low in
    (rw (e, f), rw (e, f) h)
cell_agrees t i vs ws EmptyMap a h = (refl, refl)
cell_agrees t i vs ws (Insert front key part len jump sorted) a h =
    let p = insert_fits t i vs front key part len jump sorted h in
    let e = a front p.low in
    let f = ref_agrees i vs ws part a p.part_low in
    (rw (e, f), rw (e, f) h)

-- READING A CELL

-- what the cell c with the number i says, where the cells stand for `ms`
pub record Reads (t : Text) (i : ℕ) (ms : List Value) (c : Cell) : Type 0 where
  pub means : get_or ms i none ≡ of_cell t ms c
  pub fit : fits t i ms c ≡ true

reads_above : (t : Text) (vs : List Value) (cs : List Cell) (i : ℕ) (d : Cell) → fit_above t vs cs ≡ true → i < length cs → Reads t (length vs + i) (above t vs cs) (get_or cs i d)
reads_above t vs [] i d h l = absurd (omega arith)
reads_above t vs (c ∷ cs) zero d h l =
    let v = of_cell t vs c in
    let keeps = above_keeps t vs (c ∷ cs) in
    let a = cell_agrees t (length vs) vs (above t vs (c ∷ cs)) c keeps (and_parts _ _ h).0 in
    rw add-zero record {
      means = above_keeps t (vs ++ (v ∷ [])) cs (length vs) (omega (arith, length_push vs v)) ∙ get_or_push vs v none (length vs) refl ∙ sym a.0;
      fit = a.1;
    }
reads_above t vs (c ∷ cs) (suc i) d h l =
    let v = of_cell t vs c in
    let e : length (vs ++ (v ∷ [])) + i ≡ length vs + suc i = omega (arith, length_push vs v) in
    rw (← e) (reads_above t (vs ++ (v ∷ [])) cs i d (and_parts _ _ h).1 (omega arith))

pub reads : (t : Text) (cs : List Cell) (i : ℕ) (d : Cell) → Sound t cs → i < length cs → Reads t i (meanings t cs) (get_or cs i d)
reads t cs i d h l = rw zero-add at (reads_above t [] cs i d h l)

cell_shows : (t : Text) (i : ℕ) (ms : List Value) (v : Value) (c : Cell) → v ≡ of_cell t ms c → fits t i ms c ≡ true → Shows t i ms v c
cell_shows t i ms v (Boolean b) e h = e
cell_shows t i ms v (Integer n) e h = e
cell_shows t i ms v (Float b) e h = e
cell_shows t i ms v (String s) e h = (e, h)
cell_shows t i ms v EmptyList e h = e
cell_shows t i ms v (Push front part len jump) e h =
    let p = push_fits t i ms front part len jump h in
    let l = pushed_list len (get_or ms front none) (of_ref ms part) p.counted in
    record {
      low = p.low;
      jump_low = p.jump_low;
      short = p.short;
      part_low = p.part_low;
      items = l.0;
      front_is = l.1;
      value_is = e ∙ ap (λ (f : Value). pushed f (of_ref ms part)) l.1;
      counted = l.2;
    }
cell_shows t i ms v EmptyMap e h = e
cell_shows t i ms v (Insert front key part len jump sorted) e h =
    let p = insert_fits t i ms front key part len jump sorted h in
    let l = inserted_map len (get_or ms front none) (at_span t key) (of_ref ms part) sorted p.counted p.last in
    record {
      low = p.low;
      jump_low = p.jump_low;
      short = p.short;
      part_low = p.part_low;
      key_inside = p.key_inside;
      entries = l.entries;
      front_is = l.front_is;
      value_is = e ∙ ap (λ (f : Value). inserted f (at_span t key) (of_ref ms part)) l.front_is;
      counted = l.counted;
      ascending = l.ascending;
      last = l.last;
    }

-- what a cell that was read says
pub shows : (t : Text) (cs : List Cell) (i : ℕ) (c : Cell) → Sound t cs → i < length cs → c ≡ get_or cs i c → Shows t i (meanings t cs) (get_or (meanings t cs) i none) c
shows t cs i c h l e =
    let r = reads t cs i c h l in
    rw e (cell_shows t i (meanings t cs) _ (get_or cs i c) r.means r.fit)

-- a map is what stands in a cell of a map, and its keys ascend
pub map_shown : (t : Text) (i : ℕ) (ms : List Value) (v : Value) (c : Cell) → Shows t i ms v c → kind_of v ≡ Kind.Map → (es : Entries) × (v ≡ map es) × (ascends es ≡ true)
map_shown t i ms v (Boolean b) p k = let e = rw p at k in cc
map_shown t i ms v (Integer n) p k = let e = rw p at k in cc
map_shown t i ms v (Float b) p k = let e = rw p at k in cc
map_shown t i ms v (String s) p k = let e = rw p.0 at k in cc
map_shown t i ms v EmptyList p k = let e = rw p at k in cc
map_shown t i ms v (Push front part len jump) p k = let e = rw p.value_is at k in cc
map_shown t i ms v EmptyMap p k = (no_entries, p, refl)
map_shown t i ms v (Insert front key part len jump sorted) p k = (_, p.value_is, p.ascending)

-- ONE CELL ON TOP

-- cells that fit above cells that fit
fit_append : (t : Text) (vs : List Value) (cs ds : List Cell) → fit_above t vs cs ≡ true → fit_above t (above t vs cs) ds ≡ true → fit_above t vs (cs ++ ds) ≡ true
fit_append t vs [] ds h g = g
fit_append t vs (c ∷ cs) ds h g =
    let p = and_parts _ _ h in
    and_from _ _ p.0 (fit_append t (vs ++ (of_cell t vs c ∷ [])) cs ds p.1 g)

sound_more : (t : Text) (cs : List Cell) (c : Cell) → Sound t cs → fits t (length cs) (meanings t cs) c ≡ true → Sound t (cs ++ (c ∷ []))
sound_more t cs c h f =
    let e : length (meanings t cs) ≡ length cs = omega (arith, length_above t [] cs) in
    fit_append t [] cs (c ∷ []) h (and_from _ _ (rw e f) refl)

top_means : (t : Text) (cs : List Cell) (c : Cell) → get_or (meanings t (cs ++ (c ∷ []))) (length cs) none ≡ of_cell t (meanings t cs) c
top_means t cs c =
    let e : length (meanings t cs) ≡ length cs = omega (arith, length_above t [] cs) in
    ap (λ (ws : List Value). get_or ws (length cs) none) (above_append t [] cs (c ∷ [])) ∙ get_or_push (meanings t cs) _ none (length cs) e

-- the whole stays sound, the cell stands for what it says, and what lies below keeps its meaning
pub record Extended (t more : Text) (cs : List Cell) (c : Cell) : Type 0 where
  pub sound : Sound (t ++ more) (cs ++ (c ∷ []))
  pub top : get_or (meanings (t ++ more) (cs ++ (c ∷ []))) (length cs) none ≡ of_cell (t ++ more) (meanings t cs) c
  pub keeps : Agree (length cs) (meanings t cs) (meanings (t ++ more) (cs ++ (c ∷ [])))

pub extended : (t more : Text) (cs : List Cell) (c : Cell) → Sound t cs → fits (t ++ more) (length cs) (meanings t cs) c ≡ true → Extended t more cs c
extended t more cs c h f =
    let p = persist_text t more [] cs h in
    record {
      sound = sound_more (t ++ more) cs c p.1 (rw p.0 f);
      top = rw p.0 at (top_means (t ++ more) cs c);
      keeps = rw p.0 at (persist_cells (t ++ more) cs (c ∷ []));
    }

pub sound_at : {t t' : Text} {cs cs' : List Cell} → t' ≡ t → cs' ≡ cs → Sound t cs → Sound t' cs'
sound_at e f h = rw (e, f) h

-- the bytes on top, by their span
pub top_span : (t more : Text) (s : TextSpan) → s.start ≡ length t → s.len ≡ length more → at_span (t ++ more) s ≡ more
top_span t more s at long = ap (take s.len) (drop_at t more s.start (sym at)) ∙ take_all s.len more (omega arith)

-- a span within the lowest n bytes
pub span_under : (t : Text) (n : ℕ) (s : TextSpan) → inside n s ≡ true → at_span (take n t) s ≡ at_span t s
span_under t n s h =
    let end : s.start + s.len ≤ n = leb-true _ _ h in
    let e : s.start + (n - s.start) ≡ n = omega arith in
    ap (λ (m : ℕ). take s.len (drop s.start (take m t))) (sym e)
    ∙ ap (take s.len) (drop-take s.start (n - s.start) t)
    ∙ take-take s.len (n - s.start) (drop s.start t) (omega arith)

-- WHAT LIES BELOW A HEIGHT

-- it keeps its meaning, whatever lies above it
pub persist : (t : Text) (cs : List Cell) (bytes cells : ℕ) → Sound (take bytes t) (take cells cs) → Agree (length (take cells cs)) (meanings (take bytes t) (take cells cs)) (meanings t cs)
persist t cs bytes cells h k l =
    let below = persist_text (take bytes t) (drop bytes t) [] (take cells cs) h in
    let text = take-append-drop bytes t in
    let whole = take-append-drop cells cs in
    ap (λ (ds : List Cell). get_or (meanings t ds) k none) (sym whole)
    ∙ persist_cells t (take cells cs) (drop cells cs) k l
    ∙ ap (λ (ws : List Value). get_or ws k none) (ap (λ (u : Text). meanings u (take cells cs)) (sym text) ∙ below.0)
