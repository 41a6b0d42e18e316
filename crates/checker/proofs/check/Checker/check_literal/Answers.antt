use Rattle.checker.proofs.Rests.{literal_passed}
use Rattle.checker.proofs.check.Checker.check_literal.Goals as goal

pub returns-clause-same : goal.returns-clause-same
returns-clause-same c = literal_passed _ _ _ c.plain_value.ensures.same _ _ c.in_ok-end.ensures.ok_part
