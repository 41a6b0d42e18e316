use Rattle.std.proofs.Common.{refl, sym, subst}
use Rattle.meaning.specs.Walk.{key}
use Rattle.sources.specs.Outcomes.{Tells, part_outcome}
use Rattle.sources.specs.Packed.{Stands}
use Rattle.sources.proofs.Told.{key_tells, key_wrong}
use Rattle.sources.proofs.packed.PackedValuePlace.by_key.Goals as goal

pub returns-in-Some : goal.returns-in-Some
returns-in-Some c v stands =
    subst (Tells Stands (part_outcome v c.args.op (key c.args.key.now))) (sym c.or_absent.ensures)
    (key_tells v c.args.op c.args.key.now c.in-Some.entries c.value_of.result (c.in-Some.ensures.entries refl v stands) c.value_of.ensures)

pub returns-in-None : goal.returns-in-None
returns-in-None c v stands = key_wrong v c.args.op c.args.key.now (c.in-None.ensures.entries refl v stands)
