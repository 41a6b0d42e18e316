use Rattle.std.proofs.Common.{ap, arith}
use Rattle.checker.proofs.Walking.{value_known, value_headed}
use Rattle.job.specs.Lines.{value_line}
use Rattle.job.proofs.Writing.{adds_same}
use Rattle.job.proofs.outline.Walk.value.Goals as goal

pub unreachable-requires : goal.unreachable-requires
unreachable-requires c = value_known c.args.self.now.tree.now c.args.pos c.requires c.in_default.ensures.same

pub returns : goal.returns
returns c = λ w.
    let headed = value_headed c.args.self.now.tree.now c.args.pos w _ _ c.in-Some.ensures.moves.1 c.in-Some.ensures.same in
    let ends = headed.ends in
    record {
      wrote = record { adds = adds_same (ap (value_line c.args.depth) headed.head) c.in_ok-put_value_line.ensures.adds };
      ends = omega arith;
    }
