use Rattle.std.proofs.Common.{◌≡◌, length, vec_items}
use Rattle.calls.specs.Words.{hex}
use Rattle.calls.proofs.Wording.{behind}
use Rattle.calls.proofs.word.read_hex.Given as goal

-- the digits still to come give the whole
abbrev pub invariant-loop-bytes : goal.invariant-loop-bytes
invariant-loop-bytes l = behind (vec_items l.bytes) (hex l.rest) ≡ hex l.line

abbrev pub decreases-loop-bytes : goal.decreases-loop-bytes
decreases-loop-bytes l = length l.rest
