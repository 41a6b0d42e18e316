-- Pots and lists of them, as they are made.
use Rattle.std.proofs.Common.{◌≡◌, ℕ, zero, suc, ◌+◌, ◌-◌, ◌*◌, ◌<◌, ◌≤◌, false, List, [], ◌∷◌, length, get_or, take, ℤ, pos, codes, Ok, Result, sym, refl, ap, ◌∙◌, subst, arith}
use Rattle.std.proofs.lemmas.List.{take_all}
use Rattle.std.specs.Result.{IsErr}
use Rattle.meaning.specs.Bytes.{precedes}
use Rattle.meaning.specs.Charge.{Charge, ◌⊕◌, cost, cost_items, one_cell, within}
use Rattle.meaning.specs.Parts.{append}
use Rattle.meaning.specs.Sources.{pot}
use Rattle.meaning.specs.Value.{Value, item, integer, list, map, no_entries}
use Rattle.store.specs.Stores.{Added, Grown, Over, supply, used, value}
use Rattle.store.specs.Values.{inserted, pushed}
use Rattle.store.specs.declared.cell.Ref.{Ref}
use Rattle.store.specs.declared.memory.Full.{Full}
use Rattle.store.specs.declared.memory.Store.{Store}
use Rattle.store.proofs.Stores.{charge_is, cells_paid, bytes_paid, grown_trans, over_trans}
use Rattle.sources.specs.Building.{Builds}
use Rattle.sources.specs.Pots.{pots_in, value_of_pot}
use Rattle.sources.specs.declared.pot.Pot.{Pot}
use Rattle.sources.proofs.Steps.{added_fits, falls, fits_after}

pub pot_made : (p : Pot) (d a o n : ℤ) → d ≡ pos p.depth → a ≡ p.lat → o ≡ p.lon → n ≡ pos p.number → inserted (inserted (inserted (inserted (map no_entries) (codes "depth") (integer d)) (codes "lat") (integer a)) (codes "lon") (integer o)) (codes "number") (integer n) ≡ value_of_pot p
unfolding precedes
pot_made p d a o n depth lat lon number = rw (depth, lat, lon, number) refl

-- LISTS OF POTS

abbrev pub one_pot : Charge
one_pot = record { cells = 9; bytes = 17 }

-- what a list of so many pots costs
abbrev pub so_many : ℕ → Charge
so_many n = record { cells = 1 + 10 * n; bytes = 17 * n }

cost_in : (rs : List (List ℕ)) → cost_items (pots_in rs) ≡ record { cells = 10 * length rs; bytes = 17 * length rs }
cost_in [] = refl
cost_in (bytes ∷ rs) = charge_is (omega (arith, cells_paid (cost_in rs))) (omega (arith, bytes_paid (cost_in rs)))

cost_list : (rs : List (List ℕ)) → cost (list (pots_in rs)) ≡ so_many (length rs)
cost_list rs = ap (λ (c : Charge). one_cell ⊕ c) (cost_in rs) ∙ charge_is refl (omega arith)

taken_more : (i m : ℕ) (rs : List (List ℕ)) (d : List ℕ) → m ≡ suc i → i < length rs → pots_in (take m rs) ≡ append (pots_in (take i rs)) (pot (get_or rs i d))
taken_more i m [] d e h = absurd (omega arith)
taken_more zero m (bytes ∷ rs) d e h = rw e refl
taken_more (suc i) m (bytes ∷ rs) d e h = rw e (ap (item (pot bytes)) (taken_more i (suc i) rs d refl (omega arith)))

module _ (a : Store) (rs : List (List ℕ)) (i : ℕ) (h : i < length rs) (s : Store) (whole : Ref) (g : Added a s (so_many i) (list (pots_in (take i rs))) whole) where
  -- what is not held after so many pots is not held with all of them
  pub pots_fall : (s' : Store) (extra : Charge) (q : Result Ref Full) → extra.cells ≤ 10 → extra.bytes ≤ 17 → IsErr q → (within (supply s) (used s ⊕ extra) ≡ false) × Over s s' → Builds a s' (cost (list (pots_in rs))) (list (pots_in rs)) q
  pots_fall s' extra q cells bytes e f =
      let m = so_many i in
      let rest : Charge = record { cells = 1 + 10 * length rs - (1 + 10 * i + extra.cells); bytes = 17 * length rs - (17 * i + extra.bytes) } in
      let all : m ⊕ extra ⊕ rest ≡ cost (list (pots_in rs)) = charge_is (omega arith) (omega arith) ∙ sym (cost_list rs) in
      subst (λ c. Builds a s' c (list (pots_in rs)) q) all
      (falls a s' (m ⊕ extra) rest (list (pots_in rs)) q e (fits_after a s m extra g.grown ∙ f.0, over_trans a s s' g.grown.over f.1))

  module _ (s' : Store) (v : Value) (one : Ref) (d : List ℕ) (is : v ≡ pot (get_or rs i d)) (p : Added s s' one_pot v one) where
    pub pot_falls : (s'' : Store) (q : Result Ref Full) → IsErr q → (within (supply s') (used s' ⊕ one_cell) ≡ false) × Over s' s'' → Builds a s'' (cost (list (pots_in rs))) (list (pots_in rs)) q
    pot_falls s'' q e f = pots_fall s'' (one_pot ⊕ one_cell) q (omega arith) (omega arith) e (fits_after s s' one_pot one_cell p.grown ∙ f.0, over_trans s s' s'' p.grown.over f.1)

    pub pot_added : (s'' : Store) (more : Ref) → Added s' s'' one_cell (pushed (value s' whole) (value s' one)) more → Added a s'' (so_many (i + 1)) (list (pots_in (take (i + 1) rs))) more
    pot_added s'' more q =
        let paid : so_many i ⊕ one_pot ⊕ one_cell ≡ so_many (i + 1) = charge_is (omega arith) (omega arith) in
        let list_is = p.grown.over.keeps whole g.known ∙ g.means in
        let part_is = p.means ∙ is in record {
          grown = subst (Grown a s'') paid (grown_trans a s' s'' (grown_trans a s s' g.grown p.grown) q.grown);
          known = q.known;
          means = q.means ∙ (λ j. pushed (list_is j) (part_is j)) ∙ ap list (sym (taken_more i (i + 1) rs d (omega arith) h));
        }

pub pots_done : (a s : Store) (rs : List (List ℕ)) (i : ℕ) (whole : Ref) → i ≡ length rs → Added a s (so_many i) (list (pots_in (take i rs))) whole → Builds a s (cost (list (pots_in rs))) (list (pots_in rs)) (Ok whole)
pots_done a s rs i whole e g =
    let all : so_many i ≡ cost (list (pots_in rs)) = ap so_many e ∙ sym (cost_list rs) in
    let taken : take i rs ≡ rs = take_all i rs (omega arith) in
    let held : Added a s (cost (list (pots_in rs))) (list (pots_in rs)) whole = record {
      grown = subst (Grown a s) all g.grown;
      known = g.known;
      means = g.means ∙ ap (λ xs. list (pots_in xs)) taken;
    } in
    (added_fits a s _ held.grown, held)
