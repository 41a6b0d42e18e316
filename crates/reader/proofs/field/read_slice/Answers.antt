use Rattle.std.proofs.Common.{◌-◌, length, drop, arith, length-take, length-drop}
use Rattle.reader.proofs.Readings.{no_part}
use Rattle.reader.proofs.field.read_slice.Goals as goal

pub returns-in_err-part-clause-same : goal.returns-in_err-part-clause-same
returns-in_err-part-clause-same c = λ at.
    let left = c.in_err-part.ensures.lookup in
    rw c.from_residual.ensures (no_part c.args.tree.now c.args.pos c.args.size at (length c.args.tree.now - c.args.pos) (omega arith) (omega (arith, left, length-take (length c.args.tree.now - c.args.pos) (drop c.args.pos c.args.tree.now), length-drop c.args.pos c.args.tree.now)))
