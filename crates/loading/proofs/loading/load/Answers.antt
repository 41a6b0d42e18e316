use Rattle.store.specs.Stores.{charged}
use Rattle.values.specs.Costs.{charge_of}
use Rattle.loading.proofs.Loads.{load_done, load_fits}
use Rattle.loading.proofs.loading.load.Goals as goal

pub unreachable-requires : goal.unreachable-requires
unreachable-requires c =
    load_fits c.args.store.now c.free_to.new.self c.build_value.new.store c.args.bytes.now (charged c.supply.result) (charge_of c.in_ok-cost.cost) c.supply.ensures c.in_ok-cost.ensures c.free_to.ensures c.if-not-is_held.ensures c.in-None.ensures.reads

pub returns : goal.returns
returns c =
    load_done c.args.store.now c.free_to.new.self c.build_value.new.store c.args.bytes.now (charged c.supply.result) (charge_of c.in_ok-cost.cost) c.supply.ensures c.in_ok-cost.ensures c.free_to.ensures c.if-not-is_held.ensures c.in-Some.value _ c.in-Some.ensures.reads
