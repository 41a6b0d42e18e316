-- What a reader at a position says by a reader of the bytes that are left: the bytes left at `pos` are `drop pos tree`.
use Rattle.std.specs.Prelude.{◌≡◌, ℕ, zero, suc, ◌<◌, ◌≤◌, List, [], ◌∷◌, length, drop, Some, None, Option}
use Rattle.std.specs.Borrow.{Bor}
use Rattle.packing.specs.Reader.{Outcome, read, refused, Reader}
use Rattle.meaning.specs.Step.{return, ◌>>=◌}
use Rattle.meaning.specs.declared.fault.Cause.TheVariants.{Malformed}
use Rattle.meaning.specs.Or.{gives, fails}
use Rattle.meaning.specs.Tree.{String, members}
use Rattle.meaning.specs.declared.tree.Member.{Member}
use Rattle.packing.specs.Unpacking.{member, variable}
use Rattle.reader.specs.declared.field.PackedText.{PackedText}
use Rattle.reader.specs.declared.field.Members.{Members}

-- what was taken, `f` of it being what it means, and the bytes left after it; none is a malformed command
abbrev pub taken : {A X : Type 0} → (X → A) → List ℕ → ℕ → Option (X × ℕ) → Outcome A
taken f tree at (Some r) = read (f r.0) (drop r.1 tree)
taken f tree at None = refused Malformed at

-- `r` is what the reader `m` takes at `pos`, whichever command the field belongs to
abbrev pub Takes : {A X : Type 0} → (X → A) → List ℕ → ℕ → (ℕ → Reader A) → Option (X × ℕ) → Type 0
Takes f tree pos m r = (at : ℕ) → taken f tree at r ≡ m at (drop pos tree)

-- what is taken lies within the tree
abbrev pub Within : {X : Type 0} → List ℕ → ℕ → Option (X × ℕ) → Type 0
Within tree pos (Some r) = (pos ≤ r.1) × (r.1 ≤ length tree)
Within tree pos None = Unit {0}

-- a command takes its byte at least
abbrev pub Strictly : {X : Type 0} → List ℕ → ℕ → Option (X × ℕ) → Type 0
Strictly tree pos (Some r) = (pos < r.1) × (r.1 ≤ length tree)
Strictly tree pos None = Unit {0}

abbrev pub as_it_is : {A : Type 0} → A → A
as_it_is a = a

abbrev pub now_of : {A : Type 0} → Bor A → A
now_of r = r.now

abbrev pub text_of : PackedText → String
text_of t = record { span = t.span; text = t.text.now }

-- the members that a part of the tree holds, as far as they can be read
abbrev pub after_first : Outcome Member → (List ℕ → List Member) → List Member
after_first (gives (m, s)) others = m ∷ others s
after_first (fails (fault, left)) others = []

unfoldable pub decoded : ℕ → List ℕ → List Member
decoded zero s = []
decoded (suc n) s = after_first (member 0 s) (decoded n)

abbrev pub members_of : Members → List Member
members_of m = decoded m.count m.bytes.now

-- a variable's members in a row
unfoldable pub variable_members : ℕ → Reader (List Member)
variable_members at = do
  v ← variable at
  return (members v)

-- WHAT IS PASSED OVER

-- a reading without what was read
abbrev pub ended : {A : Type 0} → Outcome A → Outcome (Unit {0})
ended (gives (a, s)) = read tt s
ended (fails (fault, left)) = refused fault left

abbrev pub passed_over : List ℕ → ℕ → Option ℕ → Outcome (Unit {0})
passed_over tree at (Some next) = read tt (drop next tree)
passed_over tree at None = refused Malformed at

-- `r` is the position after what the reader `m` reads at `pos`
abbrev pub Passes : {A : Type 0} → List ℕ → ℕ → (ℕ → Reader A) → Option ℕ → Type 0
Passes tree pos m r = (at : ℕ) → passed_over tree at r ≡ ended (m at (drop pos tree))

abbrev pub Onward : List ℕ → ℕ → Option ℕ → Type 0
Onward tree pos (Some next) = (pos ≤ next) × (next ≤ length tree)
Onward tree pos None = Unit {0}
