-- What is written at one place leaves the entries at other places as they were.
use Rattle.std.proofs.Common.{◌≡◌, ℕ, zero, suc, ◌+◌, ◌*◌, ◌<◌, ◌≤◌, Bool, true, ◌&&◌, ◌⊎◌, List, [], ◌∷◌, ◌++◌, length, get_or, take, drop, refl, ap, ◌∙◌, inl, inr, arith}
use Rattle.std.proofs.lemmas.Grind.{common_steps}
use Rattle.std.proofs.lemmas.List.{take-take, drop-take, drop-drop}
use Rattle.std.proofs.lemmas.Bool.{cases_order, eq-eqb, and_parts}
use Rattle.meaning.specs.Names.{name_of}
use Rattle.compiler.specs.declared.instr.Instr.{Instr}
use Rattle.templates.specs.Entries.{bytes_at, instrs_at, source_of, tree_of, records_of, template_from, held, sound, all_sound, lies, times}
use Rattle.templates.specs.Writing.{written, Elsewhere}
use Rattle.templates.specs.declared.entry.Entry.{Entry}
use Rattle.templates.proofs.Written.{read_before, read_behind}

-- PLACES

-- what an entry points to, read from where it begins
pub source_there : (bytes : List ℕ) (e : Entry) → source_of bytes e ≡ take e.source_len (drop (e.place * 16384) bytes)
source_there bytes e = take-take e.source_len 16384 (drop (e.place * 16384) bytes) (omega arith)

pub tree_there : (bytes : List ℕ) (e : Entry) → tree_of bytes e ≡ take e.tree_len (drop (e.place * 16384 + 8192) bytes)
tree_there bytes e =
    ap (take e.tree_len) (drop-take 8192 8192 (drop (e.place * 16384) bytes) ∙ ap (take 8192) (drop-drop 8192 (e.place * 16384) bytes))
    ∙ take-take e.tree_len 8192 (drop (e.place * 16384 + 8192) bytes) (omega arith)

pub records_there : (instrs : List Instr) (e : Entry) → records_of instrs e ≡ take e.len (drop (e.place * 1024) instrs)
records_there instrs e = take-take e.len 1024 (drop (e.place * 1024) instrs) (omega arith)

pub bytes_elsewhere : (bytes piece : List ℕ) (p at : ℕ) → p * 16384 ≤ at → at + length piece ≤ p * 16384 + 16384 → p * 16384 + 16384 ≤ length bytes → (q : ℕ) → (q ≡ p → ⊥) → bytes_at (written bytes at piece) q ≡ bytes_at bytes q
bytes_elsewhere bytes piece p at from to room q other = by (cases_order q p)
  where
    by : (q ≡ p) ⊎ ((q < p) ⊎ (p < q)) → bytes_at (written bytes at piece) q ≡ bytes_at bytes q
    by (inl same) = absurd (other same)
    by (inr (inl below)) = read_before bytes piece at (q * 16384) 16384 (omega arith) (omega arith)
    by (inr (inr above)) = ap (take 16384) (read_behind bytes piece at (q * 16384) (omega arith) (omega arith))

pub instrs_elsewhere : (instrs piece : List Instr) (p : ℕ) → length piece ≤ 1024 → p * 1024 + 1024 ≤ length instrs → (q : ℕ) → (q ≡ p → ⊥) → instrs_at (written instrs (p * 1024) piece) q ≡ instrs_at instrs q
instrs_elsewhere instrs piece p fits room q other = by (cases_order q p)
  where
    by : (q ≡ p) ⊎ ((q < p) ⊎ (p < q)) → instrs_at (written instrs (p * 1024) piece) q ≡ instrs_at instrs q
    by (inl same) = absurd (other same)
    by (inr (inl below)) = read_before instrs piece (p * 1024) (q * 1024) 1024 (omega arith) (omega arith)
    by (inr (inr above)) = ap (take 1024) (read_behind instrs piece (p * 1024) (q * 1024) (omega arith) (omega arith))

-- ENTRIES

module _ (p : ℕ) (bytes after : List ℕ) (instrs records : List Instr) (kept : Elsewhere p bytes after instrs records) where
  other : (e : Entry) (n : ℕ) → lies p e + n ≡ 0 → e.place ≡ p → ⊥
  other e n none_here same = let here : lies p e ≡ 1 = rw (eq-eqb e.place p same) in omega arith

  module _ (e : Entry) (n : ℕ) (none_here : lies p e + n ≡ 0) where
    same_source : source_of after e ≡ source_of bytes e
    same_source = ap (take e.source_len) (kept.bytes_same e.place (other e n none_here))

    same_tree : tree_of after e ≡ tree_of bytes e
    same_tree = ap (λ (block : List ℕ). take e.tree_len (drop 8192 block)) (kept.bytes_same e.place (other e n none_here))

    same_records : records_of records e ≡ records_of instrs e
    same_records = ap (take e.len) (kept.instrs_same e.place (other e n none_here))

  pub held_kept : (es : List Entry) → times p es ≡ 0 → held after es ≡ held bytes es
  held_kept [] none_here = refl
  held_kept (e ∷ es) none_here =
      let source = same_source e (times p es) none_here in
      let tree = same_tree e (times p es) none_here in
      let rest = held_kept es (omega arith) in
      λ i. (name_of e.name, template_from (source i) (tree i)) ∷ rest i

  pub sound_kept : (es : List Entry) → times p es ≡ 0 → all_sound after records es ≡ all_sound bytes instrs es
  sound_kept [] none_here = refl
  sound_kept (e ∷ es) none_here =
      let source = same_source e (times p es) none_here in
      let tree = same_tree e (times p es) none_here in
      let code = same_records e (times p es) none_here in
      let rest = sound_kept es (omega arith) in
      λ i. sound (source i) (tree i) (code i) && rest i

-- PARTS OF A TABLE

module _ (bytes : List ℕ) (instrs : List Instr) where
  abbrev here : Entry → Bool
  here e = sound (source_of bytes e) (tree_of bytes e) (records_of instrs e)

  pub sound_join : (xs ys : List Entry) → all_sound bytes instrs xs ≡ true → all_sound bytes instrs ys ≡ true → all_sound bytes instrs (xs ++ ys) ≡ true
  sound_join [] ys sx sy = sy
  sound_join (x ∷ xs) ys sx sy = let rest = sound_join xs ys in grind (arith, common_steps)

  pub sound_take : (n : ℕ) (es : List Entry) → all_sound bytes instrs es ≡ true → all_sound bytes instrs (take n es) ≡ true
  sound_take zero es s = refl
  sound_take (suc n) [] s = refl
  sound_take (suc n) (e ∷ es) s = let rest = sound_take n es in grind (arith, common_steps)

  pub sound_drop : (n : ℕ) (es : List Entry) → all_sound bytes instrs es ≡ true → all_sound bytes instrs (drop n es) ≡ true
  sound_drop zero es s = s
  sound_drop (suc n) [] s = refl
  sound_drop (suc n) (e ∷ es) s = let rest = sound_drop n es in grind (arith, common_steps)

  pub sound_at : (es : List Entry) (i : ℕ) (e : Entry) → i < length es → e ≡ get_or es i e → all_sound bytes instrs es ≡ true → sound (source_of bytes e) (tree_of bytes e) (records_of instrs e) ≡ true
  sound_at [] i e h is s = absurd (omega arith)
  sound_at (x ∷ es) zero e h is s = ap here is ∙ (and_parts (here x) (all_sound bytes instrs es) s).0
  sound_at (x ∷ es) (suc i) e h is s = sound_at es i e (omega arith) is (and_parts (here x) (all_sound bytes instrs es) s).1
