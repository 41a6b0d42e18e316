use Rattle.calls.specs.declared.word.BadLine.TheVariants.{NoCall}
use Rattle.calls.proofs.Wording.{called_bad, is_none}
use Rattle.calls.proofs.line.read_call.Goals as goal

pub returns-in_default-strip_prefix-3 : goal.returns-in_default-strip_prefix-3
returns-in_default-strip_prefix-3 c =
    let line = c.args.line.now in
    called_bad c.into.result NoCall c.into.ensures
    (is_none line line c.in_default.ensures.cases c.in_default-strip_prefix.ensures.cases c.in_default-strip_prefix-2.ensures.cases c.in_default-strip_prefix-3.ensures.cases)
