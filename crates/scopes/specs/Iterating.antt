-- How loops start and go on, in code.
use Rattle.std.specs.Prelude.{◌≡◌, ℕ, ◌<◌, List, [], ◌∷◌, length, Some, None, Ok, Err, Result}
use Rattle.std.proofs.Math.Option.{Option, none, some}
use Rattle.std.specs.declared.option.Option as code_option
use Rattle.machine.specs.Machine.{Kind, a_loop}
use Rattle.meaning.specs.Charge.{Charge}
use Rattle.meaning.specs.Fault.{Fault}
use Rattle.meaning.specs.FaultRecords.{fault_of}
use Rattle.meaning.specs.Or.{Or, fails, gives}
use Rattle.meaning.specs.Reading.{Templates}
use Rattle.meaning.specs.Scopes.{Turn}
use Rattle.meaning.specs.declared.fault.Fault as code_fault
use Rattle.store.specs.Stores.{used}
use Rattle.store.specs.declared.memory.Store.{Store}
use Rattle.scopes.specs.Entries.{loop_in}
use Rattle.scopes.specs.Layers.{LoopFits}
use Rattle.scopes.specs.declared.state.LoopState.{LoopState}

-- a loop before the first of its turns, which fits where its template is one; or the fault
pub record Starting (templates : Templates) (s : Store) (template : ℕ) (all : List Turn) (l : LoopState) : Type 0 where
  pub means : loop_in templates s l ≡ a_loop none all
  pub fits : template < length templates → LoopFits templates s (used s) l

abbrev pub Starts : (templates : Templates) → Store → (template : ℕ) → Or Fault (List Turn) → Result LoopState code_fault.Fault → Type 0
Starts templates s template (gives all) (Ok l) = Starting templates s template all l
Starts templates s template (gives all) (Err g) = ⊥
Starts templates s template (fails f) (Ok l) = ⊥
Starts templates s template (fails f) (Err g) = fault_of g ≡ f

-- no turn is left
pub record AtEnd (before : Kind) : Type 0 where
  pub current : Option Turn
  pub was : before ≡ a_loop current []

-- the loop goes into its next turn
pub record GoesOn (before after : Kind) : Type 0 where
  pub current : Option Turn
  pub turn : Turn
  pub left : List Turn
  pub was : before ≡ a_loop current (turn ∷ left)
  pub means : after ≡ a_loop (some turn) left

abbrev pub Iterates : (templates : Templates) → Store → LoopState → code_option.Option LoopState → Type 0
Iterates templates s before None = AtEnd (loop_in templates s before)
Iterates templates s before (Some after) = GoesOn (loop_in templates s before) (loop_in templates s after)

-- what fitted fits in its next turn
abbrev pub StillFits : (templates : Templates) → Store → LoopState → code_option.Option LoopState → Type 0
StillFits templates s before None = Unit {0}
StillFits templates s before (Some after) = (at : Charge) → LoopFits templates s at before → LoopFits templates s at after
