use Rattle.sources.proofs.PackedEntries.{EntriesLeft}
use Rattle.meaning.specs.Value.{Entries}
use Rattle.packing.specs.Unpacking.{value_within}
use Rattle.sources.specs.Packed.{StandEntries}
use Rattle.sources.proofs.packed.PackedParts.value_of.Given as goal

-- what is looked for is among the entries that are left
abbrev pub invariant-loop-passed : goal.invariant-loop-passed
invariant-loop-passed l =
    (es : Entries) → StandEntries l.self es → EntriesLeft (value_within l.self.levels) l.self.count l._passed l.bytes l.key es
