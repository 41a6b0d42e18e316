use Rattle.std.proofs.Common.{sym}
use Rattle.reader.proofs.AfterBytes.{expr_follows, filter_follows}
use Rattle.reader.proofs.command.expr_command.Goals as goal

pub returns-in_err-name-clause-same : goal.returns-in_err-name-clause-same
returns-in_err-name-clause-same c = λ at.
    rw (c.from_residual-in_err-name.ensures, sym (filter_follows c.in_ok-byte.byte at _ _ (c.in_ok-byte.ensures.same at) c.if-byte-eq22.true), sym (c.in_err-name.ensures.same at))

pub returns-then-byte-eq22-clause-same : goal.returns-then-byte-eq22-clause-same
returns-then-byte-eq22-clause-same c = λ at.
    rw (sym (filter_follows c.in_ok-byte.byte at _ _ (c.in_ok-byte.ensures.same at) c.if-byte-eq22.true), sym (c.in_ok-name.ensures.same at))

pub returns-in_err-base-clause-same : goal.returns-in_err-base-clause-same
returns-in_err-base-clause-same c = λ at.
    rw (c.from_residual-in_err-base.ensures, sym (expr_follows c.in_ok-byte.byte at _ _ (c.in_ok-byte.ensures.same at) (λ e. c.if-byte-eq22.false (sym e))), sym (c.in_err-base.ensures.same at))

pub returns-clause-same : goal.returns-clause-same
returns-clause-same c = λ at.
    rw (sym (expr_follows c.in_ok-byte.byte at _ _ (c.in_ok-byte.ensures.same at) (λ e. c.if-byte-eq22.false (sym e))), sym (c.in_ok-base.ensures.same at))
