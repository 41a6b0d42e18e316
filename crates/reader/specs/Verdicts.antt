-- What the checker answers, by the outcomes of readers.
use Rattle.std.specs.Prelude.{ℕ, ◌-◌, ◌<◌, ◌≤◌, List, length, drop, Ok, Err, Result}
use Rattle.meaning.specs.declared.tree.Span.{Span}
use Rattle.packing.specs.Reader.{Outcome, read, refused, Reader}
use Rattle.meaning.specs.Step.{return, ◌>>=◌, ◌>>◌}
use Rattle.packing.specs.Unpacking.{placed}
use Rattle.reader.specs.declared.refusal.Refusal.{Refusal}
use Rattle.reader.specs.Refusals.{cause_of, offset_of}

-- what was heard of a command: `f` of it is what it means; a refusal counts the bytes left at its offset
abbrev pub heard : {A X : Type 0} → (X → A) → List ℕ → Result (X × ℕ) Refusal → Outcome A
heard f tree (Ok r) = read (f r.0) (drop r.1 tree)
heard f tree (Err e) = refused (cause_of e) (length tree - offset_of e)

-- a command's head, then its spans
abbrev pub well_placed : {H : Type 0} → List ℕ → (H → List Span) → (ℕ → Reader H) → Reader H
well_placed source spans head s = (head (length s) >>= λ h. placed source (spans h) (length s) >> return h) s

-- a command lies within the tree, and so does the offset of a refusal
abbrev pub Ahead : {X : Type 0} → List ℕ → ℕ → Result (X × ℕ) Refusal → Type 0
Ahead tree pos (Ok r) = (pos < r.1) × (r.1 ≤ length tree)
Ahead tree pos (Err e) = offset_of e ≤ pos

-- the position after what was passed over
abbrev pub reached : List ℕ → Result ℕ Refusal → Outcome (Unit {0})
reached tree (Ok next) = read tt (drop next tree)
reached tree (Err e) = refused (cause_of e) (length tree - offset_of e)

abbrev pub Moves : List ℕ → ℕ → Result ℕ Refusal → Type 0
Moves tree pos (Ok next) = (pos ≤ next) × (next ≤ length tree)
Moves tree pos (Err e) = offset_of e ≤ length tree
