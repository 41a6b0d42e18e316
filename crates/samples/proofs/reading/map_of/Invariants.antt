use Rattle.samples.specs.Known.{MapKnown}
use Rattle.samples.proofs.reading.map_of.Given as goal

abbrev pub invariant-loop-key : goal.invariant-loop-key
invariant-loop-key l = MapKnown l.store l.map
