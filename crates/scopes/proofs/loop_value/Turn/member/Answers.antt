use Rattle.scopes.proofs.Built.{member_found, member_absent, member_faults}
use Rattle.scopes.specs.Looping.{turn_of}
use Rattle.scopes.proofs.loop_value.Turn.member.Goals as goal

pub returns-in-Some-default : goal.returns-in-Some-default
returns-in-Some-default c = λ current.
    member_found c.args.source.now (turn_of c.args.self current) c.args.member _ _ _ c.in-Key.is c.text_under.ensures (c.named.ensures current) _ c.in-Some-default.is-0

pub returns-in-None-Optional : goal.returns-in-None-Optional
returns-in-None-Optional c = λ current.
    member_absent c.args.source.now (turn_of c.args.self current) c.args.member _ _ _ c.in-Key.is c.text_under.ensures (c.named.ensures current) c.in-None-Optional.is-0 c.in-None-Optional.is-1

pub returns-in-None-Direct : goal.returns-in-None-Direct
returns-in-None-Direct c = λ current.
    member_faults c.args.source.now (turn_of c.args.self current) c.args.member _ _ _ c.in-Key.is c.text_under.ensures (c.named.ensures current) _ c.in-None-Direct.is-0 c.in-None-Direct.is-1 c.at-in-None-Direct.ensures
