use Rattle.store.proofs.Stores.{made_over, over_trans}
use Rattle.store_tests.proofs.owner.make_values.Goals as goal

pub returns-in_err-whole : goal.returns-in_err-whole
returns-in_err-whole c = made_over _ _ _ _ c.empty_list.result c.empty_list.ensures

pub returns : goal.returns
returns c =
    over_trans c.args.store.now c.empty_list.new.self _
    (made_over _ _ _ _ c.empty_list.result c.empty_list.ensures)
    (made_over _ _ _ _ c.make_string.result c.make_string.ensures)
