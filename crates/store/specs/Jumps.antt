-- The jumps of lists and maps: each leads to a beginning of what jumps, further down.
use Rattle.std.specs.Prelude.{◌≡◌, ℕ, ◌<◌, ◌≤◌, Bool, true, cond, ◌&&◌, ◌||◌, List, [], ◌∷◌, ◌++◌, nat_eq, slice_index_or}
use Rattle.std.proofs.Math.Option.{Option, some}
use Rattle.meaning.specs.Value.{Value, Text}
use Rattle.store.specs.Kinds.{size_of}
use Rattle.store.specs.Values.{part_of, entry_in, entry_at, first_in, any_above}
use Rattle.store.specs.declared.cell.Cell.{Cell}
use Rattle.store.specs.declared.cell.Cell.TheVariants.{Boolean, Integer, Float, String, EmptyList, Push, EmptyMap, Insert}

-- where the cell i jumps to: of maps only one whose key went in above all others, and what has no jump stays where it is
abbrev pub jump_of : Cell → ℕ → ℕ
jump_of (Boolean b) i = i
jump_of (Integer n) i = i
jump_of (Float bits) i = i
jump_of (String s) i = i
jump_of EmptyList i = i
jump_of (Push front part len jump) i = jump
jump_of EmptyMap i = i
jump_of (Insert front key part len jump sorted) i = cond sorted jump i

abbrev pub jump_at : List Cell → ℕ → ℕ
jump_at cs i = jump_of (slice_index_or cs i EmptyList) i

-- a cell with that front, on top of the cells, jumps to its front, or two jumps down from there
abbrev pub jumps_from : List Cell → (front jump : ℕ) → Bool
jumps_from cs front jump = nat_eq jump front || nat_eq jump (jump_at cs (jump_at cs front))

abbrev pub jumps : List Cell → Cell → Bool
jumps cs (Boolean b) = true
jumps cs (Integer n) = true
jumps cs (Float bits) = true
jumps cs (String s) = true
jumps cs EmptyList = true
jumps cs (Push front part len jump) = jumps_from cs front jump
jumps cs EmptyMap = true
jumps cs (Insert front key part len jump sorted) = jumps_from cs front jump

abbrev pub jump_above : (under cells : List Cell) → Bool
jump_above ds [] = true
jump_above ds (c ∷ cs) = jumps ds c && jump_above (ds ++ (c ∷ [])) cs

-- each cell jumps so
abbrev pub Jumping : List Cell → Type 0
Jumping cs = jump_above [] cs ≡ true

-- v is w, or a list or map that w begins with: what is in v is found in w
pub record Begins (v w : Value) : Type 0 where
  pub sizes : size_of v ≤ size_of w
  pub parts : (n : ℕ) → n < size_of v → part_of w n ≡ part_of v n
  pub entries : (n : ℕ) → n < size_of v → entry_at w n ≡ entry_at v n
  -- a key below one of v
  pub keys : (key : Text) → any_above v (some key) ≡ true → entry_in w key ≡ entry_in v key
  pub firsts : (bound : Option Text) → any_above v bound ≡ true → first_in w bound ≡ first_in v bound
