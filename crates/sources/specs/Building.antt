-- Making a value in several steps.
use Rattle.std.specs.Prelude.{◌≡◌, true, false, Ok, Err, Result}
use Rattle.meaning.specs.Charge.{Charge, ◌⊕◌, within}
use Rattle.meaning.specs.Value.{Value}
use Rattle.store.specs.Stores.{Added, Over, supply, used}
use Rattle.store.specs.declared.cell.Ref.{Ref}
use Rattle.store.specs.declared.memory.Full.{Full}
use Rattle.store.specs.declared.memory.Store.{Store}

-- a value was made for just that charge; or the charge passes the supply, and some of the parts may lie on top
abbrev pub Builds : Store → Store → Charge → Value → Result Ref Full → Type 0
Builds before after more v (Ok r) = (within (supply before) (used before ⊕ more) ≡ true) × Added before after more v r
Builds before after more v (Err full) = (within (supply before) (used before ⊕ more) ≡ false) × Over before after
