use mathlib.Core.Option.{some}
use Rattle.std.proofs.Common.{◌≡◌, Some}
use Rattle.store.specs.Stores.{EntryKnown, entry_shown, value}
use Rattle.store.specs.Values.{entry_at}
use Rattle.store.proofs.memory.Store.entry_after_others.Given as goal

-- the entry in hand is the one with the number of turns
abbrev pub invariant-loop-passed : goal.invariant-loop-passed
invariant-loop-passed l =
    EntryKnown l.self (Some l.here)
    × (some (entry_shown l.self l.here) ≡ entry_at (value l.self l.r) l._passed)
