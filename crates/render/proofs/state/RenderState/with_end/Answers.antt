use Rattle.std.proofs.Common.{refl}
use Rattle.render.proofs.Keeping.{keeps_pop, keeps_trans}
use Rattle.render.proofs.state.RenderState.with_end.Goals as goal

pub returns-clause-keeps : goal.returns-clause-keeps
returns-clause-keeps g c =
    keeps_trans c.args.self.now _ _ (keeps_pop c.args.self.now _ c.in-Some-Var.field-0 refl c.in-Some-Var.ensures.popped) c.end_statement.ensures.keeps
