-- What the writers of a listing promise: of records, the words of the instructions that they mean.
use Rattle.std.specs.Prelude.{◌≡◌, ℕ, ◌+◌, List, [], ◌∷◌, ◌++◌, length, codes, decimal}
use Rattle.std.proofs.Math.Option.{Option, none, some}
use Rattle.program.specs.Program as program
use Rattle.compiler.specs.declared.instr.Instr.{Instr}
use Rattle.compiler.specs.Records.{instr_of, Mean}
use Rattle.job.specs.Listing.{instr_line, instr_words}

-- the record means some instruction
pub record Meant (tree : List ℕ) (i : Instr) : Type 0 where
  pub instr : program.Instr
  pub is : instr_of tree i ≡ some instr

-- the records mean some program
pub record MeanProgram (tree : List ℕ) (is : List Instr) : Type 0 where
  pub code : List program.Instr
  pub mean : Mean tree is code

module _ (source : List ℕ) where
  abbrev pub meant_words : Option program.Instr → List ℕ
  meant_words (some x) = instr_words source x
  meant_words none = []

  abbrev pub record_line : (tree : List ℕ) (number : ℕ) → Instr → List ℕ
  record_line tree number i = instr_line number (meant_words (instr_of tree i))

  abbrev pub record_lines : (tree : List ℕ) (number : ℕ) → List Instr → List ℕ
  record_lines tree number [] = []
  record_lines tree number (i ∷ is) = record_line tree number i ++ record_lines tree (number + 1) is

  abbrev pub record_program : (tree : List ℕ) → List Instr → List ℕ
  record_program tree is =
      codes "  program of " ++ (decimal (length is) ++ codes " instructions\n") ++ record_lines tree 0 is
