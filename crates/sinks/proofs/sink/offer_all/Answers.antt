use Rattle.std.proofs.Common.{map, ◌∙◌}
use Rattle.std.proofs.lemmas.List.{at_drop_all}
use Rattle.std.proofs.lemmas.Result.{err_from_is_err_and}
use Rattle.sinks.specs.Offered.{in_order}
use Rattle.sinks.proofs.Turns.{turn_stopped, told, told_stop}
use Rattle.sinks.proofs.sink.offer_all.Goals as goal

pub returns-in_err-offer : goal.returns-in_err-offer
returns-in_err-offer g c =
    let s = g.S.Sink in
    let n = s.state c.offer.new.self in
    let p = err_from_is_err_and c.from_residual.result c.from_residual.ensures.1 in
    told_stop s.sink s.lawful _ n _ c.from_residual.result _ _
    (c.loop-piece.invariant
    ∙ turn_stopped s.sink (s.state c.loop-piece.sink) n c.args.pieces.now c.loop-piece.piece-index _
    c.loop-piece-test.true _ c.in_err-offer.ensures)
    p.1 p.2

pub returns : goal.returns
returns g c =
    let s = g.S.Sink in
    let n = s.state c.loop-piece.sink in
    told s.sink s.lawful _ n _ _ (c.loop-piece.invariant ∙ at_drop_all (λ ps. in_order s.sink n (map (λ x. x.now) ps)) c.args.pieces.now _ c.loop-piece-test.false)
