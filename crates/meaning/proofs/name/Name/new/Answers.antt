-- The copy is the front of the array, as long as the name.
use Rattle.std.proofs.Common.{◌≤◌, length, ap, ◌∙◌, arith, le-leb}
use Rattle.std.proofs.lemmas.List.{take_at}
use Rattle.meaning.proofs.name.Name.new.Goals as goal

pub returns : goal.returns
returns c =
    let some : 1 ≤ length c.args.bytes.now = omega arith in
    let short : length c.args.bytes.now ≤ 32 = omega arith in
    (rw (le-leb _ _ some, le-leb _ _ short), take_at c.copy_from_slice.new.self _ _ (ap length c.copy_from_slice.ensures.after) ∙ c.copy_from_slice.ensures.after)
