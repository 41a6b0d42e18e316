use Rattle.std.proofs.Common.{◌≡◌, ◌<◌, get_or}
use Rattle.meaning.specs.Value.{none}
use Rattle.store.specs.Values.{first_in, lower}
use Rattle.store.specs.Stores.{EntryKnown, used, values_of, shown, bound_now}
use Rattle.store.proofs.memory.Store.next_entry.Given as goal

-- the best so far and what is left of the cells give the first entry of the map
abbrev pub invariant-loop-front : goal.invariant-loop-front
invariant-loop-front l =
    (l.here < (used l.self).cells)
    × EntryKnown l.self l.best
    × (lower (shown l.self l.best) (first_in (get_or (values_of l.self) l.here none) (bound_now l.bound)) ≡ first_in (get_or (values_of l.self) l.initial.here none) (bound_now l.bound))

abbrev pub decreases-loop-front : goal.decreases-loop-front
decreases-loop-front l = l.here
