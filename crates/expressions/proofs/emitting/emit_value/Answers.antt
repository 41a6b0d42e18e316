use Rattle.std.proofs.Common.{◌≡◌}
use Rattle.expressions.proofs.emitting.emit_value.Goals as goal

pub returns-clause-writes : goal.returns-clause-writes
returns-clause-writes g c = λ newest under e setting source visible.
    let popped = c.in-Some.ensures.popped in
    let same : newest ≡ c.in-Some.newest = cc in
    rw same (c.write_text.ensures setting source visible)
