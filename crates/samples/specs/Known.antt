-- Maps that a store knows.
use Rattle.std.specs.Prelude.{◌≡◌, Ok, Err, Result}
use Rattle.store.specs.Kinds.{kind_of}
use Rattle.store.specs.Stores.{Known, value}
use Rattle.store.specs.declared.cell.Ref.{Ref}
use Rattle.store.specs.declared.kinds.Kind.{Kind}
use Rattle.store.specs.declared.memory.Full.{Full}
use Rattle.store.specs.declared.memory.Store.{Store}

abbrev pub MapKnown : Store → Ref → Type 0
MapKnown s r = Known s r × (kind_of (value s r) ≡ Kind.Map)

-- a map was made, or the store is full
abbrev pub MapMade : Store → Result Ref Full → Type 0
MapMade s (Ok r) = MapKnown s r
MapMade s (Err full) = Unit {0}
