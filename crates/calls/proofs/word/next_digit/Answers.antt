use Rattle.std.proofs.Common.{sym, ap, ◌∙◌, arith}
use Rattle.calls.specs.Options.{same_option}
use Rattle.calls.proofs.Wording.{digit_none, digit_space, digit_good, shorter}
use Rattle.calls.proofs.word.next_digit.Goals as goal

pub returns-in-empty : goal.returns-in-empty
returns-in-empty c = digit_none c.args.line.now (omega arith)

pub returns-in-32 : goal.returns-in-32
returns-in-32 c = digit_space c.args.line.now (omega arith) (omega arith)

pub returns-in_ok-digit-in-len1-up : goal.returns-in_ok-digit-in-len1-up
returns-in_ok-digit-in-len1-up c =
    let is = c.in_ok-digit-in-len1-up.ensures.ok_part in
    let read = digit_good c.args.line.now c.in_ok-digit-in-len1-up.digit (omega arith) (λ is. omega arith) (sym c.digit_of.ensures.number ∙ ap same_option is) in
    (read.0, read.1, rw is at c.digit_of.ensures.small, shorter c.args.line.now (omega arith))
