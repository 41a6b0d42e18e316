use Rattle.std.proofs.Common.{◌≡◌, ℕ, List}
use Rattle.meaning.specs.Value.{Items}
use Rattle.packing.specs.Reader.{read}
use Rattle.packing.specs.Unpacking.{items, value_within}
use Rattle.sources.proofs.PackedItems.{ItemsLeft}
use Rattle.sources.proofs.packed.PackedParts.item.Given as goal

-- what is looked for is among the items that are left
abbrev pub invariant-loop-passed : goal.invariant-loop-passed
invariant-loop-passed l =
    (vs : Items) (rest : List ℕ) → items (value_within l.self.levels) l.self.count l.self.bytes.now ≡ read vs rest → ItemsLeft (value_within l.self.levels) l.self.count l._passed l.bytes l.number vs
