use Rattle.std.proofs.Common.{◌≡◌, ◌<◌, get_or}
use Rattle.meaning.specs.Value.{none}
use Rattle.store.specs.Values.{entry_at}
use Rattle.store.specs.Stores.{used, values_of}
use Rattle.store.proofs.memory.Store.entry.Given as goal

-- what is looked for is the same entry of the map in the cell `here`
abbrev pub invariant-loop-front : goal.invariant-loop-front
invariant-loop-front l =
    (l.here < (used l.self).cells)
    × (entry_at (get_or (values_of l.self) l.here none) l.number ≡ entry_at (get_or (values_of l.self) l.initial.here none) l.number)

abbrev pub decreases-loop-front : goal.decreases-loop-front
decreases-loop-front l = l.here
