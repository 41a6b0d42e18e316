use Rattle.stack.specs.Entries.{entries}
use Rattle.expressions.proofs.Calls.{known_newest}
use Rattle.expressions.proofs.emitting.emit_call.Goals as goal

pub write_call-written-requires-clause-known : goal.write_call-written-requires-clause-known
write_call-written-requires-clause-known g c =
    known_newest c.args.store.now c.args.call.arity (entries c.args.values.now) c.in-Some.args.now c.in-Some.ensures.1 c.requires.known
