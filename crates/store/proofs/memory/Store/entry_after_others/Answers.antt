use Rattle.std.proofs.Common.{sym, arith}
use Rattle.store.specs.Stores.{value}
use Rattle.store.proofs.Ordered.{after_entry, past_at, store_ordered}
use Rattle.store.proofs.memory.Store.entry_after_others.Goals as goal

pub returns-in_err-here-2-clause-same : goal.returns-in_err-here-2-clause-same
returns-in_err-here-2-clause-same c =
    let v = value c.args.self.now c.args.r in
    let next = after_entry v c.loop-passed._passed _ _ (store_ordered c.args.self.now c.args.r c.requires) c.loop-passed.invariant.1 c.in_err-here-2.ensures.same in
    rw c.from_residual-in_err-here-2.ensures (sym (past_at v _ c.args.number (sym next) (omega arith)))

pub loop-passed-preserved : goal.loop-passed-preserved
loop-passed-preserved c =
    let at = c.in_ok-here-2.ensures in
    (at.known, after_entry (value c.args.self.now c.args.r) c.loop-passed._passed _ _ (store_ordered c.args.self.now c.args.r c.requires) c.loop-passed.invariant.1 at.same)
