use Rattle.std.proofs.Common.{◌≡◌}
use Rattle.meaning.specs.Scopes.{ask}
use Rattle.meaning.specs.Walk.{walk}
use Rattle.reader.specs.Fields.{members_of}
use Rattle.store.specs.Stores.{Known, value}
use Rattle.lookup.proofs.walking.lookup_path.Given as goal

-- what is left of the path leads from here to where the whole leads from the start
abbrev pub invariant-loop-member : goal.invariant-loop-member
invariant-loop-member l =
    Known l.store l.here
    × (walk (ask l.source) (value l.store l.here) (members_of l.member-iterator) ≡ walk (ask l.source) (value l.store l.initial.here) (members_of l.path))
