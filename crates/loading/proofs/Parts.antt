-- Building part after part adds up.
use Rattle.std.proofs.Common.{◌≡◌, ℕ, ◌+◌, ◌-◌, ◌≤◌, min, Bool, true, false, List, length, drop, Some, None, Ok, Err, Option, Result, sym, refl, ap, ◌∙◌, subst, arith}
use Rattle.std.proofs.lemmas.Bool.{and_parts, le-leb, leb-true, true≢false}
use Rattle.std.specs.Result.{result_ok}
use Rattle.meaning.specs.Charge.{Charge, ◌⊕◌, cost, within}
use Rattle.meaning.specs.Or.{fails, gives}
use Rattle.meaning.specs.Step.{return, continue, ◌>>=◌, ◌>>◌}
use Rattle.meaning.specs.Value.{Value, Text}
use Rattle.meaning.specs.declared.fault.Cause.{Cause}
use Rattle.meaning.specs.declared.fault.Cause.TheVariants.{Malformed, TooDeep}
use Rattle.packing.specs.Reader.{Outcome, read, refused, Reader, ensure, byte}
use Rattle.packing.specs.Unpacking.{literal_value, room_at, value_within}
use Rattle.reader.specs.AfterByte.{plain_head}
use Rattle.store.specs.Stores.{Added, Grown, Known, Made, SameMemory, supply, used, value}
use Rattle.store.specs.declared.cell.Ref.{Ref}
use Rattle.store.specs.declared.memory.Full.{Full}
use Rattle.store.specs.declared.memory.Store.{Store}
use Rattle.store.proofs.Stores.{charge_is, grown_trans}
use Rattle.values.proofs.Sums.{plus_assoc, refused_as}
use Rattle.values.proofs.Starts.{value_cut}
use Rattle.values.specs.Measures.{plain_within}
use Rattle.loading.specs.Building.{Builds, BuildsRead, BuildsValue}

-- CHARGES

pub supply_same : (a b : Store) → SameMemory a b → supply a ≡ supply b
supply_same a b m = charge_is (ap (min 65535) (sym m.cells_long)) (ap (min 65535) (sym m.text_long))

-- what passes a supply passes it with more
pub passes_more : (most u more : Charge) → within most u ≡ false → within most (u ⊕ more) ≡ false
passes_more most u more h = by (within most (u ⊕ more)) refl
  where
    by : (b : Bool) → within most (u ⊕ more) ≡ b → within most (u ⊕ more) ≡ false
    by false e = e
    by true e =
        let p = and_parts _ _ e in
        let cells : u.cells + more.cells ≤ most.cells = leb-true _ _ p.0 in
        let bytes : u.bytes + more.bytes ≤ most.bytes = leb-true _ _ p.1 in
        let low : u.cells ≤ most.cells = omega arith in
        let few : u.bytes ≤ most.bytes = omega arith in
        let fits : within most u ≡ true = rw (le-leb _ _ low, le-leb _ _ few) in
        absurd (true≢false (sym fits ∙ h))

-- what was made is built
pub made_builds : (a b : Store) (more : Charge) (v : Value) (r : Ref) (bytes : Text) (next : ℕ) → Added a b more v r → Builds a b more v (drop next bytes) bytes (Some (r, next))
made_builds a b more v r bytes next h = (h, refl)

pub was_made : (a b : Store) (more : Charge) (v : Value) (r : Ref) (m : Result Ref Full) → Some r ≡ result_ok m → Made a b more v m → Added a b more v r
was_made a b more v r (Ok x) e h = let same : x ≡ r = cc in subst (Added a b more v) same h.1
was_made a b more v r (Err full) e h = cc

pub not_made : (a b : Store) (more : Charge) (v : Value) (m : Result Ref Full) → ◌≡◌ {A = Option Ref} None (result_ok m) → Made a b more v m → within (supply a) (used a ⊕ more) ≡ false
not_made a b more v (Ok x) e h = cc
not_made a b more v (Err full) e h = h.0

-- what is built on top of a charge
pub builds_after : (a b s : Store) (m c d : Charge) (v w : Value) (rest bytes : Text) (r : Option (Ref × ℕ)) → Grown a b m → d ≡ m ⊕ c → v ≡ w → Builds b s c v rest bytes r → Builds a s d w rest bytes r
builds_after a b s m c d v w rest bytes (Some x) g e same h =
    rw e (record { grown = grown_trans a b s g h.0.grown; known = h.0.known; means = h.0.means ∙ same }, h.1)
builds_after a b s m c d v w rest bytes None g e same h =
    rw e
    (ap (λ most. within most (used a ⊕ (m ⊕ c))) (supply_same a b g.over.memory)
    ∙ ap (within (supply b)) (plus_assoc (used a) m c ∙ ap (λ (u : Charge). u ⊕ c) (sym g.paid))
    ∙ h)

-- what the supply does not hold at first it does not hold with the others
pub builds_not : (a s : Store) (m l d : Charge) (w : Value) (rest bytes : Text) → within (supply a) (used a ⊕ m) ≡ false → d ≡ m ⊕ l → Builds a s d w rest bytes None
builds_not a s m l d w rest bytes h e =
    rw e (ap (within (supply a)) (plus_assoc (used a) m l) ∙ passes_more (supply a) (used a ⊕ m) l h)

-- OUTCOMES

pub reads_as : (a s : Store) {o o' : Outcome Value} (bytes : Text) (r : Option (Ref × ℕ)) → o ≡ o' → BuildsValue a s o bytes r → BuildsValue a s o' bytes r
reads_as a s {o} {o'} bytes r e h = subst (λ (x : Outcome Value). BuildsValue a s x bytes r) e h

pub not_read : (a s : Store) {o : Outcome Value} {cause : Cause} {left : ℕ} (bytes : Text) (r : Option (Ref × ℕ)) → refused cause left ≡ o → BuildsValue a s o bytes r
not_read a s {o} {cause} {left} bytes r e = rw (sym e) tt

pub byte_cut : (a s : Store) (bytes : Text) (pos levels : ℕ) (r : Option (Ref × ℕ)) → ((at : ℕ) → refused Malformed at ≡ byte at (drop pos bytes)) → BuildsValue a s (value_within levels (drop pos bytes)) bytes r
byte_cut a s bytes pos levels r e = not_read a s bytes r (sym (refused_as cost (value_within levels (drop pos bytes)) Malformed (length bytes - pos) (value_cut bytes pos levels e)))

literal_is : (s : List ℕ) → plain_head (length s) s ≡ literal_value s
unfolding plain_head literal_value
literal_is s = refl

module _ (a b : Store) (bytes x : Text) where
  pub plain_cut : (r : Option (Ref × ℕ)) → ((at : ℕ) → refused Malformed at ≡ plain_head at x) → BuildsValue a b (literal_value x) bytes r
  plain_cut r e = not_read a b bytes r (e (length x) ∙ literal_is x)

  module _ (v : Value) (next : ℕ) (e : (at : ℕ) → read v (drop next bytes) ≡ plain_head at x) where
    pub plain_made : (m : Result Ref Full) (r : Ref) → Some r ≡ result_ok m → Made a b (cost v) v m → BuildsValue a b (literal_value x) bytes (Some (r, next))
    plain_made m r ok h = reads_as a b bytes (Some (r, next)) (e (length x) ∙ literal_is x) (was_made a b (cost v) v r m ok h, refl)

    pub plain_not : (m : Result Ref Full) → ◌≡◌ {A = Option Ref} None (result_ok m) → Made a b (cost v) v m → BuildsValue a b (literal_value x) bytes None
    plain_not m absent h = reads_as a b bytes None (e (length x) ∙ literal_is x) (not_made a b (cost v) v m absent h)

pub plain_on : (a s : Store) (levels : ℕ) (x bytes : Text) (r : Option (Ref × ℕ)) → BuildsValue a s (literal_value x) bytes r → BuildsValue a s (plain_within levels x) bytes r
plain_on a s levels x bytes r h = by (literal_value x) (room_at levels) h
  where
    by : (o : Outcome Value) (room : Bool) → BuildsValue a s o bytes r → BuildsValue a s (continue o (λ v. ensure room TooDeep (length x) >> return v)) bytes r
    by (gives (v, t)) true h = h
    by (gives (v, t)) false h = tt
    by (fails refusal) room h = tt

-- ONE PART MORE, AND THEN THE OTHERS

-- `parts` go onto a whole: `with_part v` is one more in front of the others, which `extra` pays for beside the part
module _ {X : Type 0} (price : X → Charge) (onto : Value → X → Value) (with_part : Value → X → X) (grow : Value → Value → Value) (extra : Charge) where
  pub record Steps : Type 0 where
    pub prices : (v : Value) (x : X) → price (with_part v x) ≡ cost v ⊕ extra ⊕ price x
    pub builds : (w v : Value) (x : X) → onto w (with_part v x) ≡ onto (grow w v) x

  module _ (steps : Steps) (a b : Store) (child : Reader Value) (others : Reader X) (x bytes : Text) where
    abbrev one_more : Outcome X
    one_more = continue (child x) (λ v. others >>= λ y. return (with_part v y))

    pub part_on : (d s : Store) (w w' part : Ref) (next : ℕ) (r : Option (Ref × ℕ)) → BuildsValue a b (child x) bytes (Some (part, next)) → Known a w → Added b d extra (grow (value b w) (value b part)) w' → BuildsRead price (onto (value d w')) d s (others (drop next bytes)) bytes r → BuildsRead price (onto (value a w)) a s one_more bytes r
    part_on d s w w' part next r p known q h = by (child x) p
      where
        by : (o : Outcome Value) → BuildsValue a b o bytes (Some (part, next)) → BuildsRead price (onto (value a w)) a s (continue o (λ v. others >>= λ y. return (with_part v y))) bytes r
        by (fails refusal) p = tt
        by (gives (v, t)) p = rw p.1 (ends (others (drop next bytes)) h)
          where
            ends : (o : Outcome X) → BuildsRead price (onto (value d w')) d s o bytes r → BuildsRead price (onto (value a w)) a s (continue o (λ y. return (with_part v y))) bytes r
            ends (fails refusal) h = tt
            ends (gives (y, u)) h =
                let grown : value d w' ≡ grow (value a w) v = q.means ∙ (λ i. grow (p.0.grown.over.keeps w known i) (p.0.means i)) in
                builds_after a d s (cost v ⊕ extra) (price y) (price (with_part v y)) (onto (value d w') y) (onto (value a w) (with_part v y)) u bytes r (grown_trans a b d p.0.grown q.grown) (steps.prices v y)
                (ap (λ z. onto z y) grown ∙ sym (steps.builds (value a w) v y)) h

    pub part_not : (s : Store) (w : Value) → BuildsValue a b (child x) bytes None → BuildsRead price (onto w) a s one_more bytes None
    part_not s w p = by (child x) p
      where
        by : (o : Outcome Value) → BuildsValue a b o bytes None → BuildsRead price (onto w) a s (continue o (λ v. others >>= λ y. return (with_part v y))) bytes None
        by (fails refusal) p = tt
        by (gives (v, t)) p = ends (others t)
          where
            ends : (o : Outcome X) → BuildsRead price (onto w) a s (continue o (λ y. return (with_part v y))) bytes None
            ends (fails refusal) = tt
            ends (gives (y, u)) = builds_not a s (cost v) (extra ⊕ price y) (price (with_part v y)) (onto w (with_part v y)) u bytes p (steps.prices v y ∙ sym (plus_assoc (cost v) extra (price y)))

    pub cell_not : (s : Store) (w : Value) (part : Ref) (next : ℕ) → BuildsValue a b (child x) bytes (Some (part, next)) → within (supply b) (used b ⊕ extra) ≡ false → BuildsRead price (onto w) a s one_more bytes None
    cell_not s w part next p small = by (child x) p
      where
        by : (o : Outcome Value) → BuildsValue a b o bytes (Some (part, next)) → BuildsRead price (onto w) a s (continue o (λ v. others >>= λ y. return (with_part v y))) bytes None
        by (fails refusal) p = tt
        by (gives (v, t)) p = ends (others t)
          where
            ends : (o : Outcome X) → BuildsRead price (onto w) a s (continue o (λ y. return (with_part v y))) bytes None
            ends (fails refusal) = tt
            ends (gives (y, u)) =
                builds_after a b s (cost v) (extra ⊕ price y) (price (with_part v y)) (onto w (with_part v y)) (onto w (with_part v y)) u bytes None p.0.grown (steps.prices v y ∙ sym (plus_assoc (cost v) extra (price y))) refl
                (builds_not b s extra (price y) (extra ⊕ price y) (onto w (with_part v y)) u bytes small refl)
