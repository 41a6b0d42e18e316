use Rattle.std.proofs.Common.{◌≡◌, length, vec_items}
use Rattle.calls.specs.Words.{unquote}
use Rattle.calls.proofs.Wording.{behind}
use Rattle.calls.proofs.word.read_quoted.Given as goal

-- the text still to come gives the whole
abbrev pub invariant-loop-bytes : goal.invariant-loop-bytes
invariant-loop-bytes l = behind (vec_items l.bytes) (unquote l.rest) ≡ unquote l.line

abbrev pub decreases-loop-bytes : goal.decreases-loop-bytes
decreases-loop-bytes l = length l.rest
