use Rattle.std.proofs.Common.{sym}
use Rattle.reader.proofs.AfterBytes.{stmt_follows}
use Rattle.reader.proofs.command.scope_command.Goals as goal

pub returns-in_err-stmt-clause-same : goal.returns-in_err-stmt-clause-same
returns-in_err-stmt-clause-same c = λ at.
    rw (c.from_residual-in_err-stmt.ensures, sym (stmt_follows c.in_ok-byte.byte at _ _ (c.in_ok-byte.ensures.same at) (λ e. c.if-byte-eq10.false (sym e))), sym (c.in_err-stmt.ensures.same at))

pub returns-clause-same : goal.returns-clause-same
returns-clause-same c = λ at.
    rw (sym (stmt_follows c.in_ok-byte.byte at _ _ (c.in_ok-byte.ensures.same at) (λ e. c.if-byte-eq10.false (sym e))), sym (c.in_ok-stmt.ensures.same at))
