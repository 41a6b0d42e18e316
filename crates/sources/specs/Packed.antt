-- Values and their parts where they stand packed, at the front of bytes.
use Rattle.std.specs.Prelude.{◌≡◌, ℕ, Bool, true, false, List, Some, None}
use Rattle.std.specs.Borrow.{Bor}
use Rattle.std.specs.declared.option.Option as code
use Rattle.meaning.specs.Fault.{Fault}
use Rattle.meaning.specs.Or.{Or, fails, gives}
use Rattle.meaning.specs.Value.{Value, none as none_value, Items, Entries, list, map}
use Rattle.packing.specs.Limits.{Before}
use Rattle.packing.specs.Reader.{read}
use Rattle.packing.specs.Unpacking.{entries, items, unpack_value, value_within}
use Rattle.sources.specs.declared.packed.PackedParts.{PackedParts}
use Rattle.sources.specs.declared.packed.PackedValue.{PackedValue}

-- the value is packed there, in front of other bytes
abbrev pub Stands : PackedValue → Value → Type 0
Stands p v = (rest : List ℕ) × (value_within p.levels p.bytes.now ≡ read v rest)

-- the items of a list are
abbrev pub StandItems : PackedParts → Items → Type 0
StandItems p vs = (rest : List ℕ) × (items (value_within p.levels) p.count p.bytes.now ≡ read vs rest)

-- the entries of a map are, whichever key stood before them
abbrev pub StandEntries : PackedParts → Entries → Type 0
StandEntries p es = (at : ℕ) × (before : Before) × (rest : List ℕ) × (entries at true (value_within p.levels) p.count before p.bytes.now ≡ read es rest)

-- these bytes are left
abbrev pub Left : List ℕ → code.Option (Bor (List ℕ)) → Type 0
Left rest (Some bytes) = bytes.now ≡ rest
Left rest None = ⊥

-- the items of a list, or that the value is no list
abbrev pub ItemsOf : Value → code.Option PackedParts → Type 0
ItemsOf v (Some p) = (vs : Items) × (v ≡ list vs) × StandItems p vs
ItemsOf v None = (vs : Items) → v ≡ list vs → ⊥

-- the entries of a map, or that the value is no map
abbrev pub EntriesOf : Value → code.Option PackedParts → Type 0
EntriesOf v (Some p) = (es : Entries) × (v ≡ map es) × StandEntries p es
EntriesOf v None = (es : Entries) → v ≡ map es → ⊥

-- THE WHOLE

abbrev pub is_value : Or Fault Value → Bool
is_value (gives v) = true
is_value (fails f) = false

-- the bytes pack a value
abbrev pub Unpacks : List ℕ → Type 0
Unpacks bytes = is_value (unpack_value bytes) ≡ true

abbrev pub value_or_none : Or Fault Value → Value
value_or_none (gives v) = v
value_or_none (fails f) = none_value

-- the value that bytes pack; none where they pack no value
abbrev pub unpacked : List ℕ → Value
unpacked bytes = value_or_none (unpack_value bytes)
