use Rattle.std.proofs.Common.{◌≡◌, codes, arith, rules}
use Rattle.std.proofs.lemmas.Slice.Eq.{text_from_reads}
use Rattle.sources.proofs.pot.Pot.field.Goals as goal

pub returns-in-number : goal.returns-in-number
returns-in-number c =
    let name = c.args.name.now in
    let e : name ≡ codes "number" = text_from_reads name (codes "number") (omega arith) (search rules) in
    rw e (search rules)
