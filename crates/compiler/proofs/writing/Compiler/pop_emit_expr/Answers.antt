use Rattle.std.proofs.Common.{sym, refl, ◌∙◌}
use Rattle.program.specs.Program.{Emit}
use Rattle.compiler.specs.declared.instr.Op.{Op}
use Rattle.compiler.specs.Making.{plain_record}
use Rattle.compiler.proofs.Means.{made_one, made_on}
use Rattle.compiler.proofs.Emits.{applied_expr, plain_expr, made_emitted}
use Rattle.compiler.proofs.writing.Compiler.pop_emit_expr.Goals as goal

pub returns-then-expr-clause-made : goal.returns-then-expr-clause-made
returns-then-expr-clause-made c = λ tree e before m told. made_emitted (applied_expr e (sym told ∙ c.if-expr.true)) m c.emit_applied.ensures.emitting

pub returns-else-expr-clause-made : goal.returns-else-expr-clause-made
returns-else-expr-clause-made c = λ tree e before m told.
    let emit = made_one (plain_record Op.Emit 0) Emit refl c.plain.ensures c.push.ensures.pushed in
    rw (plain_expr e (sym told ∙ c.if-expr.false)) (made_on m emit)
