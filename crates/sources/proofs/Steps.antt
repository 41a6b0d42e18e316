-- Making in several steps comes to making at once.
use Rattle.std.proofs.Common.{◌≡◌, ◌≤◌, true, false, Ok, Err, Result, ℤ, sym, ap, ◌∙◌, subst, arith}
use Rattle.std.proofs.lemmas.Bool.{and_from, false≢true, le-leb}
use Rattle.std.specs.Result.{IsErr}
use Rattle.meaning.specs.Charge.{Charge, ◌⊕◌, cell_and_text, one_cell, within}
use Rattle.meaning.specs.Value.{Value, Text, integer}
use Rattle.store.specs.Stores.{Added, Grown, Made, Over, supply, used, value}
use Rattle.store.specs.Values.{inserted}
use Rattle.store.specs.declared.cell.Ref.{Ref}
use Rattle.store.specs.declared.memory.Full.{Full}
use Rattle.store.specs.declared.memory.Store.{Store}
use Rattle.store.proofs.Stores.{grown_trans, over_trans, over_same}
use Rattle.loading.proofs.Parts.{passes_more, supply_same}
use Rattle.values.proofs.Sums.{plus_assoc}
use Rattle.sources.specs.Building.{Builds}

-- whether a supply holds one charge after another
pub fits_after : (a b : Store) (m n : Charge) → Grown a b m → within (supply a) (used a ⊕ (m ⊕ n)) ≡ within (supply b) (used b ⊕ n)
fits_after a b m n g =
    ap (λ most. within most (used a ⊕ (m ⊕ n))) (supply_same a b g.over.memory)
    ∙ ap (within (supply b)) (plus_assoc (used a) m n ∙ ap (λ (u : Charge). u ⊕ n) (sym g.paid))

-- what is in use is within the supply
within_used : (s : Store) → within (supply s) (used s) ≡ true
within_used s =
    let c = s.supplied.cells_fit in
    let b = s.supplied.bytes_fit in
    let cells : (used s).cells ≤ (supply s).cells = omega arith in
    let bytes : (used s).bytes ≤ (supply s).bytes = omega arith in
    and_from _ _ (le-leb _ _ cells) (le-leb _ _ bytes)

pub added_fits : (a b : Store) (m : Charge) → Grown a b m → within (supply a) (used a ⊕ m) ≡ true
added_fits a b m g = (λ i. within (supply_same a b g.over.memory i) (sym g.paid i)) ∙ within_used b

pub then_builds : (a b c : Store) (m n : Charge) (w : Value) (r : Ref) (f : Value → Value) (q : Result Ref Full) → Added a b m w r → Builds b c n (f (value b r)) q → Builds a c (m ⊕ n) (f w) q
then_builds a b c m n w r f (Ok x) g h =
    (fits_after a b m n g.grown ∙ h.0, record { grown = grown_trans a b c g.grown h.1.grown; known = h.1.known; means = h.1.means ∙ ap f g.means })
then_builds a b c m n w r f (Err full) g h = (fits_after a b m n g.grown ∙ h.0, over_trans a b c g.grown.over h.1)

-- what the supply does not hold at first it does not hold with more
pub falls : (a b : Store) (m n : Charge) (v : Value) (q : Result Ref Full) → IsErr q → (within (supply a) (used a ⊕ m) ≡ false) × Over a b → Builds a b (m ⊕ n) v q
falls a b m n v (Ok x) e h = absurd (false≢true e)
falls a b m n v (Err full) e h = (ap (within (supply a)) (plus_assoc (used a) m n) ∙ passes_more (supply a) (used a ⊕ m) n h.0, h.1)

pub made_builds : (a b : Store) (more : Charge) (v : Value) (r : Result Ref Full) → Made a b more v r → Builds a b more v r
made_builds a b more v (Ok x) h = h
made_builds a b more v (Err full) h = (h.0, over_same a b h.1)

pub builds_as : (a b : Store) (m : Charge) (v w : Value) (r : Result Ref Full) → v ≡ w → Builds a b m v r → Builds a b m w r
builds_as a b m v w r e h = subst (λ x. Builds a b m x r) e h

-- an integer more in a map
pub integer_in : (a b c : Store) (m : Charge) (w : Value) (r : Ref) (key : Text) (n : ℤ) (q : Result Ref Full) → Added a b m w r → Builds b c (one_cell ⊕ cell_and_text key) (inserted (value b r) key (integer n)) q → Builds a c (m ⊕ (one_cell ⊕ cell_and_text key)) (inserted w key (integer n)) q
integer_in a b c m w r key n q g h = then_builds a b c m (one_cell ⊕ cell_and_text key) w r (λ v. inserted v key (integer n)) q g h
