use Rattle.store.specs.Stores.{value}
use Rattle.scopes.proofs.Turns.{item_is, item_there}
use Rattle.scopes.proofs.iter.item_at.Goals as goal

pub unreachable-requires : goal.unreachable-requires
unreachable-requires c =
    let s = c.args.store.now in
    item_there s (value s c.args.list) c.args.position c.requires.is_list c.requires.there c.part.result c.in_default.is c.part.ensures

pub returns-clause-is : goal.returns-clause-is
returns-clause-is c = let s = c.args.store.now in item_is s (value s c.args.list) c.args.position c.requires.is_list c.in-Some.item c.in-Some.ensures
