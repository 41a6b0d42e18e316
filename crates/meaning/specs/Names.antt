-- Names of templates, as code holds them.
use Rattle.std.specs.Prelude.{◌≡◌, Bool, true, false, ◌&&◌, length, take, Some, None, Option, nat_le}
use Rattle.meaning.specs.Value.{Text}
use Rattle.meaning.specs.declared.name.Name.{Name}

-- the bytes that a name holds
abbrev pub name_of : Name → Text
name_of n = take n.len n.bytes

-- one to 32 bytes
abbrev pub well_named : Text → Bool
well_named name = nat_le 1 (length name) && nat_le (length name) 32

-- a name is made of just the bytes that are one
abbrev pub Named : Text → Option Name → Type 0
Named bytes (Some n) = (well_named bytes ≡ true) × (name_of n ≡ bytes)
Named bytes None = well_named bytes ≡ false
