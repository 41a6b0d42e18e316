use Rattle.std.proofs.Common.{refl}
use Rattle.render.proofs.Keeping.{keeps_same, keeps_trans}
use Rattle.render.proofs.state.RenderState.close.Goals.{then-self, else-self}
use Rattle.render.proofs.state.RenderState.close.Goals as goal

pub returns-clause-keeps : goal.returns-clause-keeps
returns-clause-keeps g c =
    keeps_trans c.args.self.now c.if-self.self _
    (elim c.if-self.branch [
      | then-self w ↦ rw w.self-is w.pop_own_scope.ensures.keeps
      | else-self w ↦ rw w.self-is (keeps_same c.args.self.now _ refl refl)
    ]) (keeps_trans c.if-self.self _ _ (keeps_same c.if-self.self _ refl refl) c.end_statement.ensures.keeps)
