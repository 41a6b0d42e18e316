use Rattle.std.proofs.Common.{rules, w32, ◌∙◌, to_z-of_z}
use Rattle.sources.proofs.Pots.{pot_is}
use Rattle.sources.proofs.pot.Pot.of_record.Goals as goal

pub returns : goal.returns
returns c =
    pot_is c.args.bytes.now _ c.from_le_bytes.ensures c.from_le_bytes-2.ensures
    (to_z-of_z {w = w32} (search rules) ∙ c.from_le_bytes-3.ensures)
    (to_z-of_z {w = w32} (search rules) ∙ c.from_le_bytes-4.ensures)
