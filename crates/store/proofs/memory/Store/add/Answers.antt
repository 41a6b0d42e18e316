use Rattle.std.proofs.Common.{◌≡◌, ◌+◌, ◌<◌, length, take, sym, refl, ap, ◌∙◌, arith, length-set}
use Rattle.std.proofs.lemmas.List.{take_more_set, take_at, take-take}
use Rattle.meaning.specs.Charge.{cell_and_text}
use Rattle.store.specs.Stores.{cells_of, text_of}
use Rattle.store.proofs.Cells.{sound_at}
use Rattle.store.proofs.Jumps.{jumping_at, jumping_more}
use Rattle.store.proofs.Stores.{room, store_extended, puts_added, text_count}
use Rattle.store.proofs.memory.Store.add.Goals as goal

pub invariant_of-self : goal.invariant_of-self
invariant_of-self c =
    let s = c.args.self.now in
    let bytes = c.args.bytes.now in
    let old : take s.tally.now.bytes c.write_at.new.text ≡ text_of s =
    sym (take-take s.tally.now.bytes (s.tally.now.bytes + length bytes) c.write_at.new.text (omega arith))
    ∙ ap (take s.tally.now.bytes) c.write_at.ensures
    ∙ take_at (text_of s) bytes _ (text_count s) in
    record { supplied = record { sound = sound_at {cs = cells_of s} old refl s.supplied.sound; jumping = s.supplied.jumping; cells_fit = s.supplied.cells_fit; bytes_fit = (omega arith, s.supplied.bytes_fit.1) } }

pub invariant_of-self-2 : goal.invariant_of-self-2
invariant_of-self-2 c =
    let s = c.args.self.now in
    let bytes = c.args.bytes.now in
    let free = room s (cell_and_text bytes) c.requires.room in
    let top : s.tally.now.cells < length s.cells.now = omega (arith, free.cells) in
    let e = store_extended s c.args.cell bytes c.requires.fit in
    record {
      supplied = record {
        sound = sound_at c.write_at.ensures (take_more_set s.cells.now s.tally.now.cells c.args.cell top) e.sound;
        jumping = jumping_at _ _ (take_more_set s.cells.now s.tally.now.cells c.args.cell top) (jumping_more (cells_of s) c.args.cell s.supplied.jumping c.requires.jump);
        cells_fit = (simp length-set (omega (arith, free.cells)), free.few_cells);
        bytes_fit = (omega (arith, free.bytes), free.few_bytes);
      };
    }

pub returns : goal.returns
returns c =
    let s = c.args.self.now in
    let bytes = c.args.bytes.now in
    let free = room s (cell_and_text bytes) c.requires.room in
    let top : s.tally.now.cells < length s.cells.now = omega (arith, free.cells) in
    puts_added s _ c.args.cell bytes s.tally.now.cells
    record {
      memory = record { cells = refl; text = refl; tally = refl; cells_long = length-set s.cells.now s.tally.now.cells c.args.cell; text_long = omega arith };
      paid = refl;
      cells = take_more_set s.cells.now s.tally.now.cells c.args.cell top;
      text = c.write_at.ensures;
      fit = c.requires.fit;
    }
    refl
