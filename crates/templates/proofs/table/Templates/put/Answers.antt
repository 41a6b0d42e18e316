use Rattle.templates.proofs.Placed.{put_apart, put_sound, put_holds}
use Rattle.templates.proofs.table.Templates.put.Goals as goal

pub invariant_of-self-clause-apart : goal.invariant_of-self-clause-apart
invariant_of-self-clause-apart c =
    put_apart c.args.self.now _ _ _ _ _ _ _ _ (record { within = c.requires.room; goes = c.requires.goes; old = c.index-self-at.result; is = c.index-self-at.is; named = c.write_template.ensures.named; there = c.write_template.ensures.there; placed = c.write_template.ensures.placed; most = c.max-self.ensures })

pub invariant_of-self-clause-sound : goal.invariant_of-self-clause-sound
invariant_of-self-clause-sound c =
    put_sound c.args.self.now _ _ _ _ _ _ _ _ (record { within = c.requires.room; goes = c.requires.goes; old = c.index-self-at.result; is = c.index-self-at.is; named = c.write_template.ensures.named; there = c.write_template.ensures.there; placed = c.write_template.ensures.placed; most = c.max-self.ensures })

pub returns : goal.returns
returns c =
    put_holds c.args.self.now _ _ _ _ _ _ _ _ (record { within = c.requires.room; goes = c.requires.goes; old = c.index-self-at.result; is = c.index-self-at.is; named = c.write_template.ensures.named; there = c.write_template.ensures.there; placed = c.write_template.ensures.placed; most = c.max-self.ensures })
