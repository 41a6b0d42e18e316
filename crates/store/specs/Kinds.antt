-- The kind of a value, as code names it, and how many bytes or parts it has.
use Rattle.std.specs.Prelude.{ℕ, length}
use Rattle.meaning.specs.Value.{Value, none, boolean, integer, float, string, list, map}
use Rattle.meaning.specs.Parts.{count_items, count_entries}
use Rattle.store.specs.declared.kinds.Kind.{Kind}
use Rattle.store.specs.declared.kinds.Kind.TheVariants as kinds

abbrev pub kind_of : Value → Kind
kind_of none = kinds.None
kind_of (boolean b) = kinds.Boolean
kind_of (integer n) = kinds.Integer
kind_of (float bits) = kinds.Float
kind_of (string t) = kinds.String
kind_of (list xs) = kinds.List
kind_of (map es) = kinds.Map

-- the command byte of a packed value of this kind
abbrev pub byte_of : Kind → ℕ
byte_of kinds.None = 0x20
byte_of kinds.Boolean = 0x21
byte_of kinds.Integer = 0x23
byte_of kinds.Float = 0x24
byte_of kinds.String = 0x25
byte_of kinds.List = 0x26
byte_of kinds.Map = 0x27

-- the bytes of a string, the parts of a list and the entries of a map
abbrev pub size_of : Value → ℕ
size_of none = 0
size_of (boolean b) = 0
size_of (integer n) = 0
size_of (float bits) = 0
size_of (string t) = length t
size_of (list xs) = count_items xs
size_of (map es) = count_entries es
