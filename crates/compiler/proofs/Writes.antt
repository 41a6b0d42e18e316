-- How writes into the program follow one another.
use Rattle.std.proofs.Common.{◌≡◌, ℕ, zero, suc, ◌+◌, ◌-◌, ◌<◌, ◌≤◌, List, [], ◌∷◌, ◌++◌, length, get_or, drop, set, sym, refl, ap, ◌∙◌, append_assoc, add-zero, arith, length-append}
use Rattle.std.proofs.Math.Seq.{set-append_seam}
use Rattle.compiler.specs.declared.instr.Instr.{Instr}
use Rattle.compiler.specs.declared.writing.Compiler.{Compiler}
use Rattle.compiler.specs.Writing.{Wrote, Pushed, Emitting, written, changed, emitting, retagged}

module _ (f : Instr → Instr) where
  pub changed_set_same : (out : List Instr) (at : ℕ) (i : Instr) → changed f (set out at i) at ≡ set out at (f i)
  unfolding changed
  changed_set_same [] at i = refl
  changed_set_same (x ∷ out) zero i = refl
  changed_set_same (x ∷ out) (suc at) i = ap (λ (xs : List Instr). x ∷ xs) (changed_set_same out at i)

  changed_set_later : (out : List Instr) (at later : ℕ) (i : Instr) → at < later → changed f (set out later i) at ≡ set (changed f out at) later i
  unfolding changed
  changed_set_later [] at later i h = refl
  changed_set_later (x ∷ out) at zero i h = absurd (omega arith)
  changed_set_later (x ∷ out) zero (suc later) i h = refl
  changed_set_later (x ∷ out) (suc at) (suc later) i h = ap (λ (xs : List Instr). x ∷ xs) (changed_set_later out at later i (omega arith))

  changed_written : (more out : List Instr) (at start : ℕ) → at < start → changed f (written out start more) at ≡ written (changed f out at) start more
  unfolding written
  changed_written [] out at start h = refl
  changed_written (i ∷ more) out at start h =
      changed_written more (set out start i) at (start + 1) (omega arith)
      ∙ ap (λ (xs : List Instr). written xs (start + 1) more) (changed_set_later out at start i h)

  pub changed_is_set : (out : List Instr) (at : ℕ) (d : Instr) → at < length out → set out at (f (get_or out at d)) ≡ changed f out at
  unfolding changed
  changed_is_set [] at d h = absurd (omega arith)
  changed_is_set (x ∷ out) zero d h = refl
  changed_is_set (x ∷ out) (suc at) d h = ap (λ (xs : List Instr). x ∷ xs) (changed_is_set out at d (omega arith))

  pub changed_past : (out : List Instr) (at : ℕ) → length out ≤ at → changed f out at ≡ out
  unfolding changed
  changed_past [] at h = refl
  changed_past (x ∷ out) zero h = absurd (omega arith)
  changed_past (x ∷ out) (suc at) h = ap (λ (xs : List Instr). x ∷ xs) (changed_past out at (omega arith))

  -- a record that is written and then changed stands as if written so
  pub wrote_changed : (i : Instr) {more : List Instr} {before late after : Compiler} → Wrote (i ∷ more) before late → after.len ≡ late.len → after.instrs.now ≡ changed f late.instrs.now before.len → Wrote (f i ∷ more) before after
  unfolding written
  wrote_changed i {more} {before} {late} {after} w counts is =
      let start = before.len in
      let out = before.instrs.now in
      let later : start < start + 1 = omega arith in
      record {
        counts = counts ∙ w.counts;
        writes =
            is
            ∙ ap (λ (xs : List Instr). changed f xs start) w.writes
            ∙ changed_written more (set out start i) start (start + 1) later
            ∙ ap (λ (xs : List Instr). written xs (start + 1) more) (changed_set_same out start i);
      }

pub written_append : (a b out : List Instr) (at : ℕ) → written out at (a ++ b) ≡ written (written out at a) (at + length a) b
unfolding written
written_append [] b out at = ap (λ (n : ℕ). written out n b) (sym (add-zero at))
written_append (i ∷ a) b out at =
    let move : at + 1 + length a ≡ at + suc (length a) = omega arith in
    written_append a b (set out at i) (at + 1) ∙ ap (λ (n : ℕ). written (written (set out at i) (at + 1) a) n b) move

pub wrote_none : {c : Compiler} → Wrote [] c c
unfolding written
wrote_none = record { counts = omega arith; writes = refl }

pub wrote_one : (i : Instr) {before after : Compiler} → Pushed i before after → Wrote (i ∷ []) before after
unfolding written
wrote_one i p = record { counts = p.counts; writes = p.writes }

pub wrote_on : {a b : List Instr} {before between after : Compiler} → Wrote a before between → Wrote b between after → Wrote (a ++ b) before after
wrote_on {a} {b} {before} {between} {after} u v =
    let out = before.instrs.now in
    let n = u.counts in
    let m = v.counts in
    record {
      counts = omega (arith, length-append a b);
      writes =
          v.writes
          ∙ ap (λ (xs : List Instr). written xs between.len b) u.writes
          ∙ ap (λ (k : ℕ). written (written out before.len a) k b) n
          ∙ sym (written_append a b out before.len);
    }

-- the last record of a row emits
pub wrote_last : (rs : List Instr) (i : Instr) {before late after : Compiler} → Wrote (rs ++ (i ∷ [])) before late → Emitting late after → Wrote (rs ++ (emitting i ∷ [])) before after
unfolding written
wrote_last rs i {before} {late} {after} w e =
    let start = before.len in
    let out = before.instrs.now in
    let counts = w.counts in
    let counts' = e.counts in
    let size = length-append rs (i ∷ []) in
    let size' = length-append rs (emitting i ∷ []) in
    let last : late.len - 1 ≡ start + length rs = omega arith in
    let is : late.instrs.now ≡ set (written out start rs) (start + length rs) i = w.writes ∙ written_append rs (i ∷ []) out start in
    record {
      counts = omega arith;
      writes =
          e.writes
          ∙ ap (λ (k : ℕ). retagged late.instrs.now k) last
          ∙ ap (λ (xs : List Instr). retagged xs (start + length rs)) is
          ∙ changed_set_same emitting (written out start rs) (start + length rs) i
          ∙ sym (written_append rs (emitting i ∷ []) out start);
    }

-- records that fit stand at the front, and behind them the slice is as it was
pub written_front : (rs pre out : List Instr) → length rs ≤ length out → written (pre ++ out) (length pre) rs ≡ pre ++ (rs ++ drop (length rs) out)
unfolding written
written_front [] pre out h = refl
written_front (i ∷ rs) pre [] h = absurd (omega arith)
written_front (i ∷ rs) pre (x ∷ out) h =
    let here : set (pre ++ (x ∷ out)) (length pre) i ≡ (pre ++ (i ∷ [])) ++ out = set-append_seam pre x out i ∙ sym (append_assoc pre (i ∷ []) out) in
    let size : length pre + 1 ≡ length (pre ++ (i ∷ [])) = sym (length-append pre (i ∷ [])) in
    ap (λ (xs : List Instr). written xs (length pre + 1) rs) here
    ∙ ap (λ (n : ℕ). written ((pre ++ (i ∷ [])) ++ out) n rs) size
    ∙ written_front rs (pre ++ (i ∷ [])) out (omega arith)
    ∙ append_assoc pre (i ∷ []) (rs ++ drop (length rs) out)
