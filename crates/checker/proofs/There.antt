-- From a part that stands at a position to the parts within it.
use Rattle.std.proofs.Common.{◌≡◌, ℕ, ◌+◌, ◌-◌, ◌≤◌, List, ◌++◌, length, drop, Some, None, sym, refl, ap, ◌∙◌, subst, append_assoc, arith, length-append, length-drop, drop-drop}
use Rattle.std.proofs.lemmas.List.{drop_at}
use Rattle.packing.specs.Reader.{Reader, read}
use Rattle.packing.proofs.Readers.{finish, never_read}
use Rattle.reader.specs.Fields.{Takes}
use Rattle.checker.specs.There.{Stands}

-- what stands before the same end stands there in full
pub stands_before : (tree : List ℕ) (pos end : ℕ) (part : List ℕ) → pos ≤ length tree → end ≤ length tree → drop pos tree ≡ part ++ drop end tree → (pos + length part ≡ end) × Stands tree pos part
stands_before tree pos end part here there e =
    let sizes : length (drop pos tree) ≡ length part + length (drop end tree) = ap length e ∙ length-append part (drop end tree) in
    let left : length (drop pos tree) ≡ length tree - pos = length-drop pos tree in
    let right : length (drop end tree) ≡ length tree - end = length-drop end tree in
    let same : pos + length part ≡ end = omega arith in
    (same, record { reads = e ∙ ap (λ k. part ++ drop k tree) (sym same); within = omega arith })

-- what stands behind `a`
behind : (tree : List ℕ) (pos : ℕ) (a u : List ℕ) → drop pos tree ≡ a ++ u → drop (pos + length a) tree ≡ u
behind tree pos a u e = sym (drop-drop (length a) pos tree) ∙ ap (drop (length a)) e ∙ drop_at a u (length a) refl

module _ (tree : List ℕ) (pos : ℕ) (a b : List ℕ) (s : Stands tree pos (a ++ b)) where
  both_sizes : length (a ++ b) ≡ length a + length b
  both_sizes = length-append a b

  both_read : drop pos tree ≡ a ++ (b ++ drop (pos + length (a ++ b)) tree)
  both_read = s.reads ∙ append_assoc a b _

  pub first_part : Stands tree pos a
  first_part = record {
    reads = both_read ∙ ap (λ u. a ++ u) (sym (behind tree pos a _ both_read));
    within = omega (arith, both_sizes, s.within);
  }

  pub second_part : Stands tree (pos + length a) b
  second_part =
      (stands_before tree (pos + length a) (pos + length (a ++ b)) b (omega (arith, both_sizes, s.within)) s.within (behind tree pos a _ both_read)).1

-- A command whose head is `h`, where `packed` stands: what the reader hands out means that head, and what is behind it follows.
pub record Headed {X H : Type 0} (means : X → H) (tree : List ℕ) (behind : List ℕ) (end : ℕ) (h : H) (x : X) (next : ℕ) : Type 0 where
  pub head : means x ≡ h
  pub ends : next + length behind ≡ end
  pub stands : Stands tree next behind

module _ {X H : Type 0} (means : X → H) (head : ℕ → Reader H) (tree : List ℕ) (pos : ℕ) (packed behind : List ℕ) (h : H) (reads : (at : ℕ) (u : List ℕ) → head at (packed ++ u) ≡ read h (behind ++ u)) (stands : Stands tree pos packed) where
  here : (at : ℕ) → head at (drop pos tree) ≡ read h (behind ++ drop (pos + length packed) tree)
  here at = ap (head at) stands.reads ∙ reads at (drop (pos + length packed) tree)

  pub head_known : Takes means tree pos head None → ⊥
  head_known takes = never_read (takes 0 ∙ here 0)

  pub head_read : (x : X) (next : ℕ) → next ≤ length tree → Takes means tree pos head (Some (x, next)) → Headed means tree behind (pos + length packed) h x next
  head_read x next inside takes =
      let both : (means x ≡ h) × (drop next tree ≡ behind ++ drop (pos + length packed) tree) =
      finish (λ k u. (means x ≡ k) × (drop next tree ≡ u)) (takes 0 ∙ here 0) (refl, refl) in
      let end = stands_before tree next (pos + length packed) behind inside stands.within both.1 in
      record { head = both.0; ends = end.0; stands = end.1 }

-- three parts, of which the first two belong together
pub three_stand : (tree : List ℕ) (pos : ℕ) (a b c : List ℕ) → Stands tree pos (a ++ (b ++ c)) → Stands tree pos (a ++ b) × Stands tree (pos + length a + length b) c
three_stand tree pos a b c s =
    let t = subst (Stands tree pos) (sym (append_assoc a b c)) s in
    let size : length (a ++ b) ≡ length a + length b = length-append a b in
    let there : pos + length (a ++ b) ≡ pos + length a + length b = omega arith in
    (first_part tree pos (a ++ b) c t, subst (λ k. Stands tree k c) there (second_part tree pos (a ++ b) c t))
