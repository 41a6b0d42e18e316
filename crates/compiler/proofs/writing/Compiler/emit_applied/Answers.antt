use Rattle.std.proofs.Common.{◌-◌, refl, sym, arith}
use Rattle.compiler.specs.Writing.{emitting}
use Rattle.compiler.proofs.Writes.{changed_is_set, changed_past}
use Rattle.compiler.proofs.writing.Compiler.emit_applied.Goals as goal

pub returns-then-last-self-clause-emitting : goal.returns-then-last-self-clause-emitting
returns-then-last-self-clause-emitting c = record {
  counts = refl;
  writes = rw (← c.saturating_sub-last.ensures) (changed_is_set (emitting) c.args.self.now.instrs.now c.saturating_sub-last.result _ (omega arith));
}

pub returns-else-last-self-clause-emitting : goal.returns-else-last-self-clause-emitting
returns-else-last-self-clause-emitting c = record { counts = refl; writes = sym (changed_past (emitting) c.args.self.now.instrs.now (c.args.self.now.len - 1) (omega arith)) }
