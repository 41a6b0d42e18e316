-- One part of a report after another.
use Rattle.std.proofs.Common.{◌≡◌, ℕ, suc, ◌+◌, ◌-◌, ◌<◌, ◌≤◌, List, [], ◌∷◌, ◌++◌, length, get_or, drop, IfOk, Ok, Err, codes, Result, sym, ap, ◌∙◌, append_assoc, append-nil, add-one, arith, drop_of_length-le, drop-cons}
use Rattle.std.specs.declared.alloc.AllocError.{AllocError}
use Rattle.job.specs.Lines.{Adds, Wrote, escape, escaped, indent}

pub adds_nothing : {x : List ℕ} → Adds [] x x
adds_nothing {x} = record { is = sym (append-nil x) }

-- one part after another
pub then_adds : {a b x y z : List ℕ} → Adds a x y → Adds b y z → Adds (a ++ b) x z
then_adds {a} {b} {x} {y} {z} e f = record { is = f.is ∙ ap (λ (s : List ℕ). s ++ b) e.is ∙ append_assoc x a b }

-- a last part, which ends what is written if there is memory for it
pub then_wrote : {A : Type 0} {a b x y z : List ℕ} (r : Result A AllocError) → Adds a x y → Wrote b r y z → Wrote (a ++ b) r x z
then_wrote {A} {a} {b} {x} {y} {z} r e f = record { adds = by r f.adds }
  where
    by : (r : Result A AllocError) → IfOk r (λ _. Adds b y z) → IfOk r (λ _. Adds (a ++ b) x z)
    by (Ok u) g = then_adds e g
    by (Err err) g = tt

-- the same text, said in another way
pub adds_same : {a b x y : List ℕ} → a ≡ b → Adds a x y → Adds b x y
adds_same {x = x} same e = record { is = e.is ∙ ap (λ s. x ++ s) same }

pub wrote_same : {A : Type 0} {a b x y : List ℕ} (r : Result A AllocError) → a ≡ b → Wrote a r x y → Wrote b r x y
wrote_same {A} {a} {b} {x} {y} r same f = record { adds = by r f.adds }
  where
    by : (r : Result A AllocError) → IfOk r (λ _. Adds a x y) → IfOk r (λ _. Adds b x y)
    by (Ok u) g = adds_same same g
    by (Err err) g = tt

-- PARTS IN A ROW

pub row_more : (out more whole one rest left : List ℕ) → left ≡ one ++ rest → Adds one out more → out ++ left ≡ whole → more ++ rest ≡ whole
row_more out more whole one rest left e f inv =
    ap (λ (s : List ℕ). s ++ rest) f.is ∙ append_assoc out one rest ∙ ap (λ (s : List ℕ). out ++ s) (sym e) ∙ inv

pub row_whole : (before so_far all left : List ℕ) → left ≡ [] → so_far ++ left ≡ before ++ all → Adds all before so_far
row_whole before so_far all left none inv =
    record { is = sym (append-nil so_far) ∙ ap (λ (s : List ℕ). so_far ++ s) (sym none) ∙ inv }

-- what is left of a row: one part and the others, or nothing
pub indent_on : (depth level : ℕ) → level < depth → indent (depth - level) ≡ codes "  " ++ indent (depth - (level + 1))
indent_on depth level h =
    let some : depth - level ≡ suc (depth - (level + 1)) = omega arith in
    ap indent some

pub indent_end : (depth level : ℕ) → depth ≤ level → indent (depth - level) ≡ []
indent_end depth level past =
    let none : depth - level ≡ 0 = omega arith in
    ap indent none

pub escaped_on : (text : List ℕ) (i : ℕ) → i < length text → escaped (drop i text) ≡ escape (get_or text i 0) ++ escaped (drop (i + 1) text)
escaped_on text i h = ap escaped (drop-cons text i 0 h ∙ ap (λ n. get_or text i 0 ∷ drop n text) (sym (add-one i)))

pub escaped_end : (text : List ℕ) (i : ℕ) → length text ≤ i → escaped (drop i text) ≡ []
escaped_end text i past = ap escaped (drop_of_length-le text past)
