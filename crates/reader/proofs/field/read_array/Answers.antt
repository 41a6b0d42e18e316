use Rattle.std.proofs.Common.{◌≡◌, ℕ, List, Some, Ok, Err, Result, MatchResult, arith}
use Rattle.std.specs.Result.{result_ok}
use Rattle.std.specs.Array.{IsWholeChunk}
use Rattle.reader.proofs.Readings.{part_here, no_part, nothing_past}
use Rattle.reader.proofs.field.read_array.Goals as goal

pub returns-in_err-get-clause-same : goal.returns-in_err-get-clause-same
returns-in_err-get-clause-same g c = λ at.
    rw c.from_residual.ensures (nothing_past c.args.tree.now c.args.pos g.row.N at (omega (arith, c.in_err-get.ensures.lookup)) c.requires)

pub returns-in_err-part-clause-same : goal.returns-in_err-part-clause-same
returns-in_err-part-clause-same g c = λ at.
    let rest = c.in_ok-get.ensures.lookup.0 in
    rw c.from_residual-in_err-part.ensures (no_part c.args.tree.now c.args.pos g.row.N at _ rest.3 (omega (arith, c.in_err-part.ensures.lookup)))

array_is : {E : Type 0} (r : Result (List ℕ) E) (part array : List ℕ) (n : ℕ) (short : E → Type 0) → Some array ≡ result_ok r → MatchResult r (λ y. IsWholeChunk part y n) short → array ≡ part
array_is (Ok y) part array n short some whole = let same = whole.same in cc
array_is (Err e) part array n short some whole = cc

pub returns-clause-same : goal.returns-clause-same
returns-clause-same g c = λ at.
    let rest = c.in_ok-get.ensures.lookup.0 in
    let part = c.in_ok-part.ensures.lookup.0 in
    rw (array_is c.try_from.result c.in_ok-part.part.now c.in_ok-array.array _ _ c.in_ok-array.ensures.value c.try_from.ensures.1)
    (part_here c.args.tree.now c.in_ok-get.field-0.now c.in_ok-part.part.now c.args.pos g.row.N at rest.2 part.2 part.1)
