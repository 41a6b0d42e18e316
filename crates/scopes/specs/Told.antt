-- What code answers where the meaning makes a value under a supply, or faults.
use Rattle.std.specs.Prelude.{◌≡◌, Ok, Err, Result}
use Rattle.meaning.specs.Or.{Or, fails, gives}
use Rattle.meaning.specs.Charge.{Charge}
use Rattle.meaning.specs.Fault.{Fault}
use Rattle.meaning.specs.FaultRecords.{fault_of}
use Rattle.meaning.specs.Value.{Value}
use Rattle.meaning.specs.declared.fault.Fault as code
use Rattle.store.specs.Stores.{Known, Over, used, value}
use Rattle.store.specs.declared.cell.Ref.{Ref}
use Rattle.store.specs.declared.memory.Store.{Store}

-- r stands for the value, and so much is in use
pub record Holds (before after : Store) (v : Value) (tally : Charge) (r : Ref) : Type 0 where
  pub over : Over before after
  pub known : Known after r
  pub means : value after r ≡ v
  pub paid : used after ≡ tally

-- the fault is that one, and what was in use is as it was
pub record Fails (before after : Store) (f : Fault) (g : code.Fault) : Type 0 where
  pub over : Over before after
  pub is : fault_of g ≡ f

abbrev pub Tells : (before after : Store) → Or Fault (Value × Charge) → Result Ref code.Fault → Type 0
Tells before after (gives (v, tally)) (Ok r) = Holds before after v tally r
Tells before after (gives (v, tally)) (Err g) = ⊥
Tells before after (fails f) (Ok r) = ⊥
Tells before after (fails f) (Err g) = Fails before after f g
