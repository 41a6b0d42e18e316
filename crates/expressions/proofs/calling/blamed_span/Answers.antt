use Rattle.std.proofs.Common.{ap, ◌∙◌}
use Rattle.hosts.specs.declared.answer.Argument.{Argument}
use Rattle.expressions.proofs.Blames.{blames_an_argument, blames_the_call}
use Rattle.expressions.proofs.calling.blamed_span.Goals as goal

pub returns-in-Some-get : goal.returns-in-Some-get
returns-in-Some-get c = λ s.
    let found = c.in-Some-get.ensures.lookup in
    ap (λ (a : Argument). a.span) found.1
    ∙ blames_an_argument s c.args.args.now c.args.argument c.in-Some.number c.args.site c.in-Some.is c.in-Some-get.blamed.now found.3.0

pub returns-in-None : goal.returns-in-None
returns-in-None c = λ s. blames_the_call s c.args.args.now c.args.argument c.in-Some.number c.args.site c.in-Some.is c.in-None.ensures.lookup.3
