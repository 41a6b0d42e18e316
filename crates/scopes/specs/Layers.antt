-- What always holds of the stack of scopes: what an entry refers to lies below its floor, and the floors rise.
use Rattle.std.specs.Prelude.{◌≡◌, ◌<◌, ◌≤◌, true, List, [], ◌∷◌, length}
use Rattle.meaning.specs.Charge.{Charge}
use Rattle.meaning.specs.Reading.{Templates}
use Rattle.store.specs.Cells.{below}
use Rattle.store.specs.Kinds.{kind_of, size_of}
use Rattle.store.specs.Stores.{Height, charged, value}
use Rattle.store.specs.declared.cell.Ref.{Ref}
use Rattle.store.specs.declared.kinds.Kind.{Kind}
use Rattle.store.specs.declared.kinds.Kind.TheVariants as kinds
use Rattle.store.specs.declared.memory.Store.{Store}
use Rattle.decoder.specs.declared.decoded.LoopVars.{LoopVars}
use Rattle.decoder.specs.declared.decoded.LoopVars.TheVariants as vars
use Rattle.scopes.specs.declared.state.LoopState.{LoopState}
use Rattle.scopes.specs.declared.state.Scope.{Scope}
use Rattle.scopes.specs.declared.state.State.{State}
use Rattle.scopes.specs.declared.state.State.TheVariants as states

-- the reference is known at that height
abbrev pub Low : Charge → Ref → Type 0
Low at r = below at.cells r ≡ true

-- what a loop with such names goes over
abbrev pub iterable_kind : LoopVars → Kind
iterable_kind (vars.Item name) = kinds.List
iterable_kind (vars.KeyValue k w both) = kinds.Map

module _ (templates : Templates) (s : Store) where
  -- a loop at a height: there is no turn after the last
  pub record LoopFits (at : Charge) (l : LoopState) : Type 0 where
    pub named : l.template < length templates
    pub low : Low at l.iterable
    pub kind : kind_of (value s l.iterable) ≡ iterable_kind l.vars
    pub within : l.next ≤ size_of (value s l.iterable)

  abbrev pub StateFits : Charge → State → Type 0
  StateFits at states.ValueFn = Unit {0}
  StateFits at (states.Scope r) = Low at r
  StateFits at (states.Var template name r) = (template < length templates) × Low at r
  StateFits at (states.Loop l) = LoopFits at l
  StateFits at states.Boundary = Unit {0}

  -- one entry, whose floor is a height that the store can be put back to
  pub record Layer (above : Charge) (e : Scope) : Type 0 where
    pub height : Height s (charged e.floor)
    pub cells_low : e.floor.cells ≤ above.cells
    pub bytes_low : e.floor.bytes ≤ above.bytes
    pub fits : StateFits (charged e.floor) e.state

  -- the newest first; the tally stands at `above`
  abbrev pub Layered : (above : Charge) → List Scope → Type 0
  Layered above [] = Unit {0}
  Layered above (e ∷ es) = Layer above e × Layered (charged e.floor) es
