use Rattle.values.proofs.Keys.{text_within}
use Rattle.values.proofs.key.read_key.Goals as goal

pub returns-in_default-clause-moves : goal.returns-in_default-clause-moves
returns-in_default-clause-moves c =
    let read = c.in_ok-key.ensures in
    (text_within c.args.bytes.now c.args.pos c.in_ok-key.next _ read.moves (read.same 0), read.moves.1)
