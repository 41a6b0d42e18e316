-- The memory of a store.
use Rattle.std.specs.Prelude.{◌≤◌, List, length, take}
use Rattle.meaning.specs.Value.{Text}
use Rattle.store.specs.Cells.{Sound}
use Rattle.store.specs.Jumps.{Jumping}
use Rattle.store.specs.declared.cell.Cell.{Cell}
use Rattle.store.specs.declared.memory.Tally.{Tally}

-- what is in use lies in that memory, is counted by 16 bits, and is sound
pub record Supplied (cells : List Cell) (text : Text) (tally : Tally) : Type 0 where
  pub sound : Sound (take tally.bytes text) (take tally.cells cells)
  pub jumping : Jumping (take tally.cells cells)
  pub cells_fit : (tally.cells ≤ length cells) × (tally.cells ≤ 65535)
  pub bytes_fit : (tally.bytes ≤ length text) × (tally.bytes ≤ 65535)
