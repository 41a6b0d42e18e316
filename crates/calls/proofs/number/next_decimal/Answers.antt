use Rattle.std.proofs.Common.{sym, ap, ◌∙◌, arith}
use Rattle.calls.specs.Options.{same_option}
use Rattle.calls.proofs.Numbers.{decimal_none, decimal_space, decimal_good}
use Rattle.calls.proofs.Wording.{shorter}
use Rattle.calls.proofs.number.next_decimal.Goals as goal

pub returns-in-empty : goal.returns-in-empty
returns-in-empty c = decimal_none c.args.line.now (omega arith)

pub returns-in-32 : goal.returns-in-32
returns-in-32 c = decimal_space c.args.line.now (omega arith) (omega arith)

pub returns-in_ok-digit-in-len1-up : goal.returns-in_ok-digit-in-len1-up
returns-in_ok-digit-in-len1-up c =
    let is = c.in_ok-digit-in-len1-up.ensures.ok_part in (
      decimal_good c.args.line.now c.in_ok-digit-in-len1-up.digit (omega arith) (λ is. omega arith) (sym c.digit_of.ensures ∙ ap same_option is),
      shorter c.args.line.now (omega arith),
    )
