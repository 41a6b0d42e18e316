use Rattle.std.proofs.Common.{Ok, Err}
use Rattle.scopes.proofs.Finds.{asked, has_as, source_has, source_is_full, source_refuses}
use Rattle.scopes.proofs.searching.ask_source.Goals as goal

pub returns-in-Ok : goal.returns-in-Ok
returns-in-Ok g c = λ outer.
    let v = c.args.var.now in
    has_as _ _ _ (Ok c.in-Ok.value) (asked (g.S.ValueSource.valued c.args.value_source.now) outer v) (source_has _ _ v.source.now _ _ _ c.in-Ok.ensures)

pub returns-in-Err-Full : goal.returns-in-Err-Full
returns-in-Err-Full g c = λ outer.
    let v = c.args.var.now in
    has_as _ _ _ (Err c.at.result) (asked (g.S.ValueSource.valued c.args.value_source.now) outer v)
    (source_is_full _ _ v.source.now _ _ _ c.at.ensures (rw c.in-Err-Full.field-0-is at c.in-Err-Full.ensures))

pub returns-in-Err-Refused : goal.returns-in-Err-Refused
returns-in-Err-Refused g c = λ outer.
    let v = c.args.var.now in
    has_as _ _ _ (Err c.at-in-Err-Refused.result) (asked (g.S.ValueSource.valued c.args.value_source.now) outer v)
    (source_refuses _ _ v.source.now _ _ _ _ c.at-in-Err-Refused.ensures (rw c.in-Err-Refused.field-0-is at c.in-Err-Refused.ensures))
