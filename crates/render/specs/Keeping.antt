-- What a rendering keeps of the memory: all that lies beneath the floors of its scopes.
use Rattle.std.specs.Prelude.{◌≡◌, ◌≤◌, List, [], ◌∷◌, take}
use Rattle.meaning.specs.Charge.{Charge}
use Rattle.stack.specs.Entries.{entries}
use Rattle.store.specs.Stores.{cells_of, text_of, used, value}
use Rattle.store.specs.declared.cell.Ref.{Ref}
use Rattle.store.specs.declared.memory.Store.{Store}
use Rattle.scopes.specs.Layers.{Low}
use Rattle.scopes.specs.declared.state.Scope.{Scope}
use Rattle.render.specs.declared.state.RenderState.{RenderState}

-- two stores hold the same below that height
pub record Agrees (at : Charge) (before after : Store) : Type 0 where
  pub cells_low : at.cells ≤ (used after).cells
  pub bytes_low : at.bytes ≤ (used after).bytes
  pub cells_kept : take at.cells (cells_of after) ≡ take at.cells (cells_of before)
  pub bytes_kept : take at.bytes (text_of after) ≡ take at.bytes (text_of before)
  pub keeps : (r : Ref) → Low at r → value after r ≡ value before r

-- the height lies at or below the floors of all these scopes
abbrev pub Lowest : Charge → List Scope → Type 0
Lowest at [] = Unit {0}
Lowest at (e ∷ es) = (at.cells ≤ e.floor.cells) × (at.bytes ≤ e.floor.bytes) × Lowest at es

-- and of the tally
pub record Beneath {K : Type 0} (at : Charge) (s : RenderState K) : Type 0 where
  pub cells : at.cells ≤ (used s.store).cells
  pub bytes : at.bytes ≤ (used s.store).bytes
  pub scopes : Lowest at (entries s.scopes)

pub record Keeps {K : Type 0} (before after : RenderState K) : Type 0 where
  pub under : (at : Charge) → Beneath at before → Agrees at before.store after.store × Beneath at after
