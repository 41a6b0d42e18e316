use Rattle.std.proofs.Common.{◌≡◌, map, drop}
use Rattle.sinks.specs.Offered.{in_order}
use Rattle.sinks.proofs.sink.offer_all.Given as goal

-- the pieces that are left come to what all of them come to
abbrev pub invariant-loop-piece : goal.invariant-loop-piece
invariant-loop-piece g l =
    let s = g.S.Sink in
    in_order s.sink (s.state l.initial.sink) (map (λ x. x.now) l.pieces) ≡ in_order s.sink (s.state l.sink) (map (λ x. x.now) (drop l.piece-index l.pieces))
