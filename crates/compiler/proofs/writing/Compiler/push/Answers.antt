-- Past the end of the slice a `set` changes nothing.
use Rattle.std.proofs.Common.{◌+◌, sym, ap, ◌∙◌, arith}
use Rattle.std.proofs.lemmas.List.{set_past}
use Rattle.compiler.specs.declared.writing.Compiler.{Compiler}
use Rattle.compiler.proofs.writing.Compiler.push.Goals as goal
use Rattle.compiler.proofs.writing.Compiler.push.Goals.{then-number-self, else-number-self}

pub returns-clause-pushed : goal.returns-clause-pushed
returns-clause-pushed c = elim c.if-number-self.branch [
  | then-number-self w ↦ record { counts = ap (λ (s : Compiler). s.len + 1) w.self-is; writes = ap (λ (s : Compiler). s.instrs.now) w.self-is }
  | else-number-self w ↦ record {
    counts = ap (λ (s : Compiler). s.len + 1) w.self-is;
    writes = ap (λ (s : Compiler). s.instrs.now) w.self-is ∙ sym (set_past c.args.self.now.instrs.now c.args.self.now.len c.args.instr (omega arith));
  }
]
