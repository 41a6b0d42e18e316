use Rattle.std.proofs.Common.{◌+◌, drop, arith}
use Rattle.stack.specs.Entries.{entries}
use Rattle.templates.specs.Held.{templates_of}
use Rattle.scopes.proofs.Stacks.{entry_fits_still, found_here, found_nowhere, goes_outward}
use Rattle.scopes.proofs.searching.lookup_var.Goals as goal

pub in_state-requires : goal.in_state-requires
in_state-requires g c =
    let es = entries c.args.scopes.now in
    entry_fits_still (templates_of c.args.templates.now) c.args.store.now c.loop-depth.store es c.loop-depth.depth c.in-Some.scope (drop (c.loop-depth.depth + 1) es) c.loop-depth.invariant.0 c.in-Some.ensures.1 c.requires

pub returns-in-Some-2 : goal.returns-in-Some-2
returns-in-Some-2 g c =
    let es = entries c.args.scopes.now in
    found_here (templates_of c.args.templates.now) c.args.store.now (g.S.ValueSource.valued c.args.value_source.now) c.args.var.now es c.loop-depth.depth c.in-Some.scope (drop (c.loop-depth.depth + 1) es)
    c.in-Some.ensures.1 c.loop-depth.invariant.1 c.loop-depth.store c.in_state.new.store _ c.in-Some-2.value c.loop-depth.invariant.0 c.in-Some-2.is c.in_ok-value.ensures

pub loop-depth-preserved : goal.loop-depth-preserved
loop-depth-preserved g c =
    let es = entries c.args.scopes.now in
    goes_outward (templates_of c.args.templates.now) c.args.store.now (g.S.ValueSource.valued c.args.value_source.now) c.args.var.now es c.loop-depth.depth c.in-Some.scope (drop (c.loop-depth.depth + 1) es)
    c.in-Some.ensures.1 c.loop-depth.invariant.1 c.loop-depth.store c.in_state.new.store _ c.loop-depth.invariant.0 c.in_default-2.is c.in_ok-value.ensures

pub returns : goal.returns
returns g c =
    let es = entries c.args.scopes.now in
    found_nowhere (templates_of c.args.templates.now) c.args.store.now (g.S.ValueSource.valued c.args.value_source.now) c.args.var.now c.loop-depth.store es c.loop-depth.depth _
    c.loop-depth.invariant.0 (omega arith) c.loop-depth.invariant.1 c.not_in_scope.ensures
