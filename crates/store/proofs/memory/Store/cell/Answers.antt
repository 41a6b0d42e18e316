use Rattle.store.specs.declared.cell.Cell.TheVariants.{Boolean}
use Rattle.store.proofs.Jumps.{memory_begins}
use Rattle.store.proofs.memory.Store.cell.Goals as goal

pub returns-clause-begins : goal.returns-clause-begins
returns-clause-begins c = memory_begins c.args.self.now c.args.at (Boolean mathlib.Core.Bool.false) c.requires
