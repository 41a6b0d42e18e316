-- What is written into supplied memory.
use Rattle.std.specs.Prelude.{◌≡◌, ℕ, ◌+◌, ◌<◌, ◌≤◌, true, List, ◌++◌, length, take, drop, Ok, Err, Result}
use Rattle.meaning.specs.Fault.{fault}
use Rattle.meaning.specs.declared.fault.Cause.TheVariants.{TooManyInstructions}
use Rattle.meaning.specs.declared.fault.Fault.{Fault}
use Rattle.meaning.specs.FaultRecords.{fault_of}
use Rattle.program.specs.Program as program
use Rattle.compiler.specs.declared.instr.Instr.{Instr}
use Rattle.compiler.specs.Records.{Mean}
use Rattle.templates.specs.Entries.{bytes_at, instrs_at, source_of, tree_of, records_of, sound}
use Rattle.templates.specs.declared.entry.Entry.{Entry}

-- memory with a piece written over what stood from `at` on
abbrev pub written : {A : Type 0} → List A → ℕ → List A → List A
written memory at piece = take at memory ++ (piece ++ drop (at + length piece) memory)

-- a program is short enough, or is refused with its number of instructions
abbrev pub Counted : List program.Instr → Result (Unit {0}) Fault → Type 0
Counted code (Ok u) = length code ≤ 1024
Counted code (Err f) = (1024 < length code) × (fault_of f ≡ fault TooManyInstructions (length code))

-- records that mean a program were written from `at` on, as many as were counted
pub record Programmed (tree : List ℕ) (code : List program.Instr) (at count : ℕ) (before after : List Instr) : Type 0 where
  pub records : List Instr
  pub mean : Mean tree records code
  pub counts : count ≡ length code
  pub short : count ≤ 1024
  pub is : after ≡ written before at records

-- every place but one is as it was
pub record Elsewhere (place : ℕ) (bytes after : List ℕ) (instrs records : List Instr) : Type 0 where
  pub bytes_same : (q : ℕ) → (q ≡ place → ⊥) → bytes_at after q ≡ bytes_at bytes q
  pub instrs_same : (q : ℕ) → (q ≡ place → ⊥) → instrs_at records q ≡ instrs_at instrs q

-- a template was written to the place of an entry, which tells of it
pub record Placed (source tree : List ℕ) (e : Entry) (bytes after : List ℕ) (instrs records : List Instr) : Type 0 where
  pub source_is : source_of after e ≡ source
  pub tree_is : tree_of after e ≡ tree
  pub is_sound : sound (source_of after e) (tree_of after e) (records_of records e) ≡ true
  pub elsewhere : Elsewhere e.place bytes after instrs records
