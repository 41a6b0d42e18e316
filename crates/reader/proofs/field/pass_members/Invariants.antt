use Rattle.std.proofs.Common.{◌≡◌, ℕ, ◌+◌, ◌≤◌, length, drop}
use Rattle.packing.specs.Unpacking.{more_members}
use Rattle.reader.specs.Fields.{ended}
use Rattle.reader.proofs.field.pass_members.Given as goal

-- what is left of the members gives the whole answer
abbrev pub invariant-loop-member : goal.invariant-loop-member
invariant-loop-member l =
    (l.initial.at ≤ l.at)
    × (l.at ≤ length l.tree)
    × ((left : ℕ) × (left + l._member ≡ l.count)
    × ((at : ℕ) → ended (more_members left at (drop l.at l.tree)) ≡ ended (more_members l.count at (drop l.initial.at l.tree))))
