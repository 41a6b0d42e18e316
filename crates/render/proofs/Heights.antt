-- What lies below a height of the tally stays where the store grows, and where it is freed down to that height.
use Rattle.std.proofs.Common.{◌≡◌, ℕ, ◌≤◌, true, List, take, sym, refl, ap, ◌∙◌, arith, lt-ltb, ltb-true}
use Rattle.std.proofs.lemmas.List.{take-take, take_all}
use Rattle.meaning.specs.Charge.{Charge}
use Rattle.store.specs.Cells.{below}
use Rattle.store.specs.Stores.{Freed, Over, cells_of, text_of, used}
use Rattle.store.specs.declared.cell.Ref.{Ref}
use Rattle.store.specs.declared.cell.Ref.TheVariants.{None as Nothing, At}
use Rattle.store.specs.declared.memory.Store.{Store}
use Rattle.store.proofs.Stores.{over_height, cells_count, text_count, cells_paid, bytes_paid}
use Rattle.render.specs.Keeping.{Agrees}

low_higher : (m n : ℕ) (r : Ref) → m ≤ n → below m r ≡ true → below n r ≡ true
low_higher m n Nothing l h = refl
low_higher m n (At i) l h = lt-ltb _ _ (omega (arith, l, ltb-true _ _ h))

same_under : {A : Type 0} (m n : ℕ) (xs ys : List A) → m ≤ n → take n xs ≡ take n ys → take m xs ≡ take m ys
same_under m n xs ys l e = sym (take-take m n xs l) ∙ ap (take m) e ∙ take-take m n ys l

pub agrees_lower : (at low : Charge) (s t : Store) → low.cells ≤ at.cells → low.bytes ≤ at.bytes → Agrees at s t → Agrees low s t
agrees_lower at low s t c b a = record {
  cells_low = omega (arith, c, a.cells_low);
  bytes_low = omega (arith, b, a.bytes_low);
  cells_kept = same_under low.cells at.cells _ _ c a.cells_kept;
  bytes_kept = same_under low.bytes at.bytes _ _ b a.bytes_kept;
  keeps = λ r l. a.keeps r (low_higher low.cells at.cells r c l);
}

pub over_agrees : (s t : Store) → Over s t → Agrees (used s) s t
over_agrees s t o =
    let h = over_height s t o in
    record {
      cells_low = h.cells_low;
      bytes_low = h.bytes_low;
      cells_kept = o.cells_under ∙ sym (take_all (used s).cells (cells_of s) (omega (arith, cells_count s)));
      bytes_kept = o.text_under ∙ sym (take_all (used s).bytes (text_of s) (omega (arith, text_count s)));
      keeps = o.keeps;
    }

pub freed_agrees : (s t : Store) (at : Charge) → Freed s t at → Agrees at s t
freed_agrees s t at f = record {
  cells_low = omega (arith, cells_paid f.at_height);
  bytes_low = omega (arith, bytes_paid f.at_height);
  cells_kept = ap (take at.cells) f.cells_kept ∙ take-take at.cells at.cells (cells_of s) (omega arith);
  bytes_kept = ap (take at.bytes) f.text_kept ∙ take-take at.bytes at.bytes (text_of s) (omega arith);
  keeps = λ r l. f.keeps r (low_higher at.cells (used t).cells r (omega (arith, cells_paid f.at_height)) l);
}
