use Rattle.std.proofs.Common.{rules, ◌≡◌, Err, arith}
use Rattle.formatters.proofs.Written.{no_digit_more}
use Rattle.formatters.proofs.writer.Writer.+put_digits.Goals as goal

pub returns-in_err-put_digits : goal.returns-in_err-put_digits
returns-in_err-put_digits t c =
    let same : c.from_residual.result ≡ Err c.in_err-put_digits.field-0.0 = search rules in
    rw same (no_digit_more c.args.width c.args.n _ _ _ (omega arith) c.in_err-put_digits.ensures)
