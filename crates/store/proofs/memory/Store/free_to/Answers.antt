use Rattle.std.proofs.Common.{sym, refl, take-take}
use Rattle.store.proofs.Jumps.{supplied_under}
use Rattle.store.proofs.Stores.{freed}
use Rattle.store.proofs.memory.Store.free_to.Goals as goal

pub invariant_of-self : goal.invariant_of-self
invariant_of-self c = (supplied_under c.args.self.now c.args.mark c.requires, tt)

pub returns : goal.returns
returns c =
    let s = c.args.self.now in
    let cells = take-take c.args.mark.cells s.tally.now.cells s.cells.now c.requires.cells_low in
    let text = take-take c.args.mark.bytes s.tally.now.bytes s.text.now c.requires.bytes_low in
    freed s _ _ record { cells = refl; text = refl; tally = refl; cells_long = refl; text_long = refl } refl (sym cells) (sym text)
