use Rattle.scopes.proofs.Built.{loop_builds}
use Rattle.scopes.proofs.loop_value.Turn.make.Goals as goal

pub returns : goal.returns
returns c = λ current.
    loop_builds _ _ _ _ _ c.args.self current _ _ _ _ _ _ _ c.in_ok-empty.ensures c.in_ok-with_first.ensures c.in_ok-with_index.ensures c.insert_member-3.ensures c.first.ensures c.index.ensures c.last.ensures
