use Rattle.std.proofs.Common.{◌≡◌, map as each}
use Rattle.meaning.specs.Scopes.{ask}
use Rattle.meaning.specs.Value.{Value}
use Rattle.reader.specs.Fields.{members_of}
use Rattle.sources.specs.Outcomes.{path_outcome}
use Rattle.sources.proofs.walking.walk.Given as goal

-- what is left of the path leads from here to where the whole leads from the start
abbrev pub invariant-loop-member : goal.invariant-loop-member
invariant-loop-member g l =
    (v : Value) → g.P.Place.stands l.initial.here v → (w : Value) × g.P.Place.stands l.here w × (path_outcome w (each (ask l.source) (members_of l.member-iterator)) ≡ path_outcome v (each (ask l.source) (members_of l.path)))
