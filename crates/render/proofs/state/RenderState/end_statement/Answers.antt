use Rattle.std.proofs.Common.{refl}
use Rattle.render.proofs.Keeping.{keeps_freed}
use Rattle.render.proofs.Rest.{sound_on_floor, rests_on_floor}
use Rattle.render.proofs.state.RenderState.end_statement.Goals as goal

pub returns-clause-sound : goal.returns-clause-sound
returns-clause-sound g c =
    sound_on_floor c.args.self.now c.free_to.new.self c.in-Some.top _ c.in-Some.ensures.1 c.free_to.ensures c.requires.sound c.requires.clear

pub returns-clause-rests : goal.returns-clause-rests
returns-clause-rests g c =
    rests_on_floor c.args.self.now c.free_to.new.self c.in-Some.top _ c.in-Some.ensures.1 c.free_to.ensures c.requires.sound

pub returns-clause-keeps : goal.returns-clause-keeps
returns-clause-keeps g c = keeps_freed c.args.self.now _ c.in-Some.top _ c.in-Some.ensures.1 c.free_to.ensures refl
