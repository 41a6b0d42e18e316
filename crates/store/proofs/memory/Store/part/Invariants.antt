use Rattle.std.proofs.Common.{◌≡◌, ◌<◌, get_or}
use Rattle.meaning.specs.Value.{none}
use Rattle.store.specs.Values.{part_of}
use Rattle.store.specs.Stores.{used, values_of}
use Rattle.store.proofs.memory.Store.part.Given as goal

-- what is looked for is the same part of the list in the cell `here`
abbrev pub invariant-loop-front : goal.invariant-loop-front
invariant-loop-front l =
    (l.here < (used l.self).cells)
    × (part_of (get_or (values_of l.self) l.here none) l.number ≡ part_of (get_or (values_of l.self) l.initial.here none) l.number)

abbrev pub decreases-loop-front : goal.decreases-loop-front
decreases-loop-front l = l.here
