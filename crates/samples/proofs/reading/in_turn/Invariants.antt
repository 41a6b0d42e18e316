use Rattle.store.specs.Stores.{BoundKnown}
use Rattle.samples.proofs.reading.in_turn.Given as goal

abbrev pub invariant-loop-number : goal.invariant-loop-number
invariant-loop-number l = BoundKnown l.store l.after
