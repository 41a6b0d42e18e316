use Rattle.store.specs.Stores.{value}
use Rattle.expressions.proofs.Texts.{within_new}
use Rattle.expressions.proofs.emitting.write_text.Goals as goal

pub returns : goal.returns
returns g c = λ setting source visible.
    c.reported.ensures setting source visible c.args.store.now c.format.new.buffer
    (g.F.Formatter.formatted c.args.formatter.now (value c.args.store.now c.args.value))
    (rw c.requires.long at c.format.ensures.answers) (within_new c.format.result _ _ c.format.auto.buffer c.format.ensures.within)
