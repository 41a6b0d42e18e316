use Rattle.store.specs.Stores.{BoundKnown}
use Rattle.bench.proofs.reads.read_entries.Given as goal

abbrev pub invariant-loop : goal.invariant-loop
invariant-loop l = BoundKnown l.store l.after
