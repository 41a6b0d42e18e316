-- The keys of a packed map, in ascending order.
use Rattle.std.specs.Prelude.{ℕ, ◌+◌, ◌≤◌, List, length, Some, None, Option}
use Rattle.std.specs.Borrow.{Bor}
use Rattle.meaning.specs.Step.{return, ◌>>=◌, ◌>>◌}
use Rattle.meaning.specs.Value.{Text}
use Rattle.meaning.specs.declared.fault.Cause.TheVariants.{Malformed}
use Rattle.packing.specs.Limits.{Before, no_key, the_key, ascends}
use Rattle.packing.specs.Reader.{Reader, ensure}
use Rattle.packing.specs.Unpacking.{text}

-- the key before, if any
abbrev pub key_before : Option (Bor Text) → Before
key_before None = no_key
key_before (Some k) = the_key k.now

-- a key that comes after the one before it
abbrev pub rising_key : Before → (at : ℕ) → Reader Text
rising_key before at = do
  k ← text at
  ensure (ascends before k) Malformed at
  return k

-- a key lies within the bytes
abbrev pub KeyWithin : List ℕ → ℕ → Option (Bor Text × ℕ) → Type 0
KeyWithin bytes pos (Some r) = (pos + length r.0.now ≤ r.1) × (r.1 ≤ length bytes)
KeyWithin bytes pos None = Unit {0}
