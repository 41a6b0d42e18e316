-- What the fault records of code say.
use Rattle.std.proofs.Math.Option.{Option, none, some}
use Rattle.std.specs.declared.option.Option as code_option
use Rattle.std.specs.Prelude.{Some, None}
use Rattle.meaning.specs.Fault.{Fault}
use Rattle.meaning.specs.Names.{name_of}
use Rattle.meaning.specs.declared.fault.Fault as code

abbrev pub given : {A B : Type 0} → (A → B) → code_option.Option A → Option B
given f (Some a) = some (f a)
given f None = none

abbrev pub fault_of : code.Fault → Fault
fault_of f = record { cause = f.cause; template = given name_of f.template; span = given (λ s. s) f.span; detail = f.detail }
