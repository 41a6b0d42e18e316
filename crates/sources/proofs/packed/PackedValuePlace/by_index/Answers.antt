use Rattle.std.proofs.Common.{refl, sym, subst}
use Rattle.meaning.specs.Walk.{index}
use Rattle.sources.specs.Outcomes.{Tells, part_outcome}
use Rattle.sources.specs.Packed.{Stands}
use Rattle.sources.proofs.Told.{index_tells, index_wrong}
use Rattle.sources.proofs.packed.PackedValuePlace.by_index.Goals as goal

pub returns-in-Some : goal.returns-in-Some
returns-in-Some c v stands =
    subst (Tells Stands (part_outcome v c.args.op (index c.args.number))) (sym c.or_absent.ensures)
    (index_tells v c.args.op c.args.number c.in-Some.items c.item.result (c.in-Some.ensures.items refl v stands) c.item.ensures)

pub returns-in-None : goal.returns-in-None
returns-in-None c v stands = index_wrong v c.args.op c.args.number (c.in-None.ensures.items refl v stands)
