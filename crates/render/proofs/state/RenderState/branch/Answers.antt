use Rattle.std.proofs.Common.{refl}
use Rattle.render.proofs.Keeping.{keeps_same, keeps_trans}
use Rattle.render.proofs.state.RenderState.branch.Goals.{then-truth-when, else-truth-when}
use Rattle.render.proofs.state.RenderState.branch.Goals as goal

pub returns-clause-keeps : goal.returns-clause-keeps
returns-clause-keeps g c =
    keeps_trans c.args.self.now c.if-truth-when.self _
    (elim c.if-truth-when.branch [
      | then-truth-when w ↦ rw w.self-is (keeps_same c.args.self.now _ refl refl)
      | else-truth-when w ↦ rw w.self-is (keeps_same c.args.self.now _ refl refl)
    ]) c.end_statement.ensures.keeps
