-- Loading a packed value.
use Rattle.std.specs.Prelude.{◌≡◌, ℕ, not, List, Ok, Err, Result}
use Rattle.meaning.specs.Charge.{Charge, cost, within}
use Rattle.meaning.specs.Fault.{Fault, fault}
use Rattle.meaning.specs.FaultRecords.{fault_of}
use Rattle.meaning.specs.Or.{Or, fails, gives, ◌>>=◌, ◌>>◌, refuse_if}
use Rattle.meaning.specs.Value.{Value}
use Rattle.meaning.specs.declared.fault.Cause.TheVariants.{StoreFull}
use Rattle.meaning.specs.declared.fault.Fault as code
use Rattle.packing.specs.Unpacking.{unpack_value}
use Rattle.store.specs.Stores.{Known, SameMemory, used, value}
use Rattle.store.specs.declared.cell.Ref.{Ref}
use Rattle.store.specs.declared.memory.Store.{Store}

-- the value, or the first fault in its bytes, or that the whole supply does not hold its cost
abbrev pub loaded : (supply : Charge) → (packed : List ℕ) → Or Fault Value
loaded supply packed = do
  v ← unpack_value packed
  refuse_if (not (within supply (cost v))) (fault StoreFull 0)
  gives v

-- a store holds just that value
pub record Holds (before after : Store) (v : Value) (r : Ref) : Type 0 where
  pub memory : SameMemory before after
  pub paid : used after ≡ cost v
  pub known : Known after r
  pub means : value after r ≡ v

-- the answer, and the store after it: a fault changes nothing
abbrev pub Loads : Store → Store → Or Fault Value → Result Ref code.Fault → Type 0
Loads before after (gives v) (Ok r) = Holds before after v r
Loads before after (gives v) (Err f) = ⊥
Loads before after (fails w) (Ok r) = ⊥
Loads before after (fails w) (Err f) = (fault_of f ≡ w) × (after ≡ before)
