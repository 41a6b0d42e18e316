use Rattle.std.proofs.Common.{refl, arith}
use Rattle.store.specs.Stores.{value}
use Rattle.scopes.specs.Entries.{source_at}
use Rattle.scopes.proofs.Turns.{at_end, goes_on}
use Rattle.scopes.proofs.state.LoopState.iterate.Goals as goal

pub returns-then-self-size-clause-means : goal.returns-then-self-size-clause-means
returns-then-self-size-clause-means c = λ all.
    let l = c.args.self in
    goes_on (source_at all l.template) l.vars (value c.args.store.now l.iterable) l.next c.requires.is_kind _ (omega arith) refl

pub returns-else-self-size-clause-means : goal.returns-else-self-size-clause-means
returns-else-self-size-clause-means c = λ all.
    let l = c.args.self in
    at_end (source_at all l.template) l.vars (value c.args.store.now l.iterable) l.next c.requires.is_kind (omega arith)
