use Rattle.std.proofs.Common.{take, ap, ◌∙◌, arith}
use Rattle.std.proofs.lemmas.List.{with_items_is}
use Rattle.store_tests.proofs.owner.Owner.make.Goals as goal

pub invariant_of-self : goal.invariant_of-self
invariant_of-self c =
    let was = c.args.self.now in
    let cells = with_items_is was.cells c.make_in.new.cells (omega (arith, c.as_mut_slice.ensures.len)) in
    let text = with_items_is was.text c.make_in.new.text (omega (arith, c.as_mut_slice-2.ensures.len)) in
    record { supplied = rw (cells, text) c.make_in.ensures.supplied }

pub returns : goal.returns
returns c =
    let was = c.args.self.now in
    let cells = with_items_is was.cells c.make_in.new.cells (omega (arith, c.as_mut_slice.ensures.len)) in
    ap (λ xs. take was.tally.cells (take c.make_in.new.tally.cells xs)) cells
    ∙ c.make_in.ensures.cells_under
    ∙ ap (take was.tally.cells) c.as_mut_slice.ensures.value
