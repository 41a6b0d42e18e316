use Rattle.std.proofs.Common.{arith}
use Rattle.calls.proofs.Wording.{line_calls}
use Rattle.calls.proofs.line.read_line.Goals as goal

pub returns-in_ok-read_call-in_default : goal.returns-in_ok-read_call-in_default
returns-in_ok-read_call-in_default c =
    line_calls c.args.line.now (omega arith) (λ is. omega arith) c.in_ok-read_call-in_default.field-0 c.in_ok-read_call-in_default.ensures
