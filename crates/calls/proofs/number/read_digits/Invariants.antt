use Rattle.std.proofs.Common.{◌≡◌, length}
use Rattle.calls.specs.Numbers.{digits}
use Rattle.calls.proofs.number.read_digits.Given as goal

-- the digits still to come give the whole
abbrev pub invariant-loop-digit : goal.invariant-loop-digit
invariant-loop-digit l = digits l.number l.rest ≡ digits 0 l.line

abbrev pub decreases-loop-digit : goal.decreases-loop-digit
decreases-loop-digit l = length l.rest
