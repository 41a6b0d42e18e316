use Rattle.store.specs.Stores.{value}
use Rattle.scopes.proofs.Turns.{entry_is, entry_there}
use Rattle.scopes.proofs.iter.entry_at.Goals as goal

pub unreachable-requires : goal.unreachable-requires
unreachable-requires c =
    let s = c.args.store.now in
    entry_there s (value s c.args.map) c.args.position c.requires.is_map c.requires.there c.entry.result c.in_default.is c.entry.ensures.same

pub returns-clause-is : goal.returns-clause-is
returns-clause-is c = let s = c.args.store.now in entry_is s (value s c.args.map) c.args.position c.requires.is_map c.in-Some.entry c.in-Some.ensures.same
