-- What a store holds, and what making a value does to it.
use Rattle.std.specs.Prelude.{◌≡◌, ℕ, ◌≤◌, min, true, false, List, length, take, Some, None, Ok, Err, Result}
use Rattle.std.proofs.Math.Option.{Option, none, some}
use Rattle.std.specs.Borrow.{Bor}
use Rattle.std.specs.declared.option.Option as code
use Rattle.meaning.specs.Value.{Value, Text, none as none_value}
use Rattle.meaning.specs.Charge.{Charge, ◌⊕◌, cell_and_text, within}
use Rattle.store.specs.Cells.{Sound, at_span, inside, of_ref, meanings, below}
use Rattle.store.specs.Shown.{Shows}
use Rattle.store.specs.declared.cell.Cell.{Cell}
use Rattle.store.specs.declared.cell.Entry.{Entry}
use Rattle.store.specs.declared.cell.Ref.{Ref}
use Rattle.store.specs.declared.cell.Ref.TheVariants as ref
use Rattle.store.specs.declared.cell.TextSpan.{TextSpan}
use Rattle.store.specs.declared.memory.Full.{Full}
use Rattle.store.specs.declared.memory.Store.{Store}
use Rattle.store.specs.declared.memory.Tally.{Tally}

-- what is in use
abbrev pub charged : Tally → Charge
charged t = record { cells = t.cells; bytes = t.bytes }

abbrev pub used : Store → Charge
used s = charged s.tally.now

-- what may be used of the memory that was lent
abbrev pub supply : Store → Charge
supply s = record { cells = min 65535 (length s.cells.now); bytes = min 65535 (length s.text.now) }

-- the cells and the text in use
abbrev pub cells_of : Store → List Cell
cells_of s = take (used s).cells s.cells.now

abbrev pub text_of : Store → Text
text_of s = take (used s).bytes s.text.now

-- what the cells in use stand for
abbrev pub values_of : Store → List Value
values_of s = meanings (text_of s) (cells_of s)

-- what a reference stands for in the store
abbrev pub value : Store → Ref → Value
value s r = of_ref (values_of s) r

-- the reference is to none or to a cell in use
abbrev pub Known : Store → Ref → Type 0
Known s r = below (used s).cells r ≡ true

-- the number of the cell that a reference names, if any
abbrev pub number : Ref → ℕ
number ref.None = 0
number (ref.At i) = i

-- the cell that a reference names says what the reference stands for, which is none where it names no cell
abbrev pub ShownIn : Store → Ref → code.Option Cell → Type 0
ShownIn s r None = value s r ≡ none_value
ShownIn s r (Some c) = Shows (text_of s) (number r) (values_of s) (value s r) c

-- CHANGES

-- the same memory is lent, which has its fixed size
pub record SameMemory (before after : Store) : Type 0 where
  pub cells : after.cells.ghost_name ≡ before.cells.ghost_name
  pub text : after.text.ghost_name ≡ before.text.ghost_name
  pub tally : after.tally.ghost_name ≡ before.tally.ghost_name
  pub cells_long : length after.cells.now ≡ length before.cells.now
  pub text_long : length after.text.now ≡ length before.text.now

-- `after` is `before` with more on top
pub record Over (before after : Store) : Type 0 where
  pub memory : SameMemory before after
  pub cells_under : take (used before).cells (cells_of after) ≡ cells_of before
  pub text_under : take (used before).bytes (text_of after) ≡ text_of before
  -- what was made before keeps its meaning
  pub keeps : (r : Ref) → Known before r → value after r ≡ value before r

-- the tally rose by just that charge
pub record Grown (before after : Store) (more : Charge) : Type 0 where
  pub over : Over before after
  pub paid : used after ≡ used before ⊕ more

-- for that charge, r stands for v
pub record Added (before after : Store) (more : Charge) (v : Value) (r : Ref) : Type 0 where
  pub grown : Grown before after more
  pub known : Known after r
  pub means : value after r ≡ v

-- where bytes will lie that are put on top with one cell; or they pass the supply
abbrev pub Placed : Store → Text → Result TextSpan Full → Type 0
Placed s more (Ok span) = (within (supply s) (used s ⊕ cell_and_text more) ≡ true) × (span.start ≡ (used s).bytes) × (span.len ≡ length more)
Placed s more (Err full) = within (supply s) (used s ⊕ cell_and_text more) ≡ false

-- a value was made for that charge; or the charge passes the supply, and nothing changed
abbrev pub Made : Store → Store → Charge → Value → Result Ref Full → Type 0
Made before after more v (Ok r) = (within (supply before) (used before ⊕ more) ≡ true) × Added before after more v r
Made before after more v (Err full) = (within (supply before) (used before ⊕ more) ≡ false) × (after ≡ before)

-- a height of the tally that the store can be put back to
pub record Height (s : Store) (at : Charge) : Type 0 where
  pub cells_low : at.cells ≤ (used s).cells
  pub bytes_low : at.bytes ≤ (used s).bytes
  pub sound : Sound (take at.bytes (text_of s)) (take at.cells (cells_of s))

-- what lay above that height is freed, and nothing below it changed
pub record Freed (before after : Store) (at : Charge) : Type 0 where
  pub memory : SameMemory before after
  pub at_height : used after ≡ at
  pub cells_kept : cells_of after ≡ take at.cells (cells_of before)
  pub text_kept : text_of after ≡ take at.bytes (text_of before)
  pub keeps : (r : Ref) → Known after r → value after r ≡ value before r

-- a store is as it was, as far as its memory is in use
pub record PutBack (old new : Store) : Type 0 where
  pub memory : SameMemory old new
  pub tally : used new ≡ used old
  pub cells : cells_of new ≡ cells_of old
  pub text : text_of new ≡ text_of old

-- WHAT IS FOUND

-- a reference was found to what is there, or nothing is
abbrev pub Found : Store → Option Value → code.Option Ref → Type 0
Found s (some v) (Some r) = Known s r × (value s r ≡ v)
Found s (some v) None = ⊥
Found s none (Some r) = ⊥
Found s none None = Unit {0}

-- an entry in the store: its key and its value
abbrev pub entry_shown : Store → Entry → Text × Value
entry_shown s e = (at_span (text_of s) e.key, value s e.value)

abbrev pub shown : Store → code.Option Entry → Option (Text × Value)
shown s None = none
shown s (Some e) = some (entry_shown s e)

abbrev pub key_shown : Store → code.Option TextSpan → Option Text
key_shown s None = none
key_shown s (Some k) = some (at_span (text_of s) k)

-- a key lent as a bound, if any
abbrev pub bound_now : code.Option (Bor Text) → Option Text
bound_now None = none
bound_now (Some k) = some k.now

-- the span lies in the text in use
abbrev pub KeyKnown : Store → TextSpan → Type 0
KeyKnown s key = inside (used s).bytes key ≡ true

abbrev pub EntryKnown : Store → code.Option Entry → Type 0
EntryKnown s None = Unit {0}
EntryKnown s (Some e) = KeyKnown s e.key × Known s e.value

abbrev pub BoundKnown : Store → code.Option TextSpan → Type 0
BoundKnown s None = Unit {0}
BoundKnown s (Some k) = KeyKnown s k
