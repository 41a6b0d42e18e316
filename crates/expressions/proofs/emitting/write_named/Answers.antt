use Rattle.store.specs.Stores.{value}
use Rattle.hosts.specs.Answers.{formatter_of}
use Rattle.expressions.proofs.Texts.{within_new}
use Rattle.expressions.proofs.emitting.write_named.Goals as goal

pub returns : goal.returns
returns g c = λ setting source visible.
    c.reported.ensures setting source visible c.args.store.now c.format.new.buffer
    (formatter_of (g.C.Callables.named c.args.callables.now c.args.formatter.now) (value c.args.store.now c.args.value))
    (rw c.requires.long at c.format.ensures.answers) (within_new c.format.result _ _ c.format.auto.buffer c.format.ensures.within)
