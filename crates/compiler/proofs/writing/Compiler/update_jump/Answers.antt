use Rattle.std.proofs.Common.{refl, sym, arith}
use Rattle.compiler.specs.Writing.{aimed}
use Rattle.compiler.proofs.Writes.{changed_is_set, changed_past}
use Rattle.compiler.proofs.writing.Compiler.update_jump.Goals as goal

pub returns-then-jump-self-clause-patched : goal.returns-then-jump-self-clause-patched
returns-then-jump-self-clause-patched c = record { counts = refl; writes = changed_is_set (aimed c.args.target) c.args.self.now.instrs.now c.args.jump _ (omega arith) }

pub returns-else-jump-self-clause-patched : goal.returns-else-jump-self-clause-patched
returns-else-jump-self-clause-patched c = record { counts = refl; writes = sym (changed_past (aimed c.args.target) c.args.self.now.instrs.now c.args.jump (omega arith)) }
