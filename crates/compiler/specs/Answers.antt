-- What compiling a template answers.
use Rattle.std.specs.Prelude.{◌≡◌, ℕ, ◌<◌, ◌≤◌, List, ◌++◌, length, drop, Ok, Err, Result}
use Rattle.meaning.specs.Fault.{fault}
use Rattle.meaning.specs.declared.fault.Cause.TheVariants.{TooManyInstructions}
use Rattle.meaning.specs.FaultRecords.{fault_of}
use Rattle.program.specs.Program as program
use Rattle.compiler.specs.declared.instr.Instr.{Instr}
use Rattle.compiler.specs.declared.programs.CompileError.{CompileError}
use Rattle.compiler.specs.declared.programs.CompileError.TheVariants.{Fault, Short}
use Rattle.compiler.specs.Records.{Mean}

abbrev pub most_instructions : ℕ
most_instructions = 1024

-- the slice begins with records that mean the instructions one by one, and behind them is as before
pub record Holds (tree : List ℕ) (code : List program.Instr) (before after : List Instr) : Type 0 where
  pub records : List Instr
  pub mean : Mean tree records code
  pub is : after ≡ records ++ drop (length code) before

abbrev pub Answers : (tree : List ℕ) (code : List program.Instr) (before after : List Instr) → Result ℕ CompileError → Type 0
Answers tree code before after (Ok n) = (n ≡ length code) × (n ≤ most_instructions) × Holds tree code before after
Answers tree code before after (Err (Fault f)) =
    (most_instructions < length code) × (fault_of f ≡ fault TooManyInstructions (length code)) × (after ≡ before)
Answers tree code before after (Err (Short n)) =
    (n ≡ length code) × (n ≤ most_instructions) × (length before < n) × (after ≡ before)
