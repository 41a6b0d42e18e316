-- The listing of a template's program: a line for each instruction.
use Rattle.std.specs.Prelude.{ℕ, ◌+◌, Bool, true, false, cond, List, [], ◌∷◌, ◌++◌, length, codes, decimal, nat_le}
use Rattle.meaning.specs.Spans.{text_at}
use Rattle.meaning.specs.Tree.{LoopVars, Item, KeyValue, Scope, members}
use Rattle.meaning.specs.declared.tree.Access.{Access}
use Rattle.meaning.specs.declared.tree.Access.TheVariants.{Index, Key}
use Rattle.meaning.specs.declared.tree.AccessOp.{AccessOp}
use Rattle.meaning.specs.declared.tree.AccessOp.TheVariants.{Direct, Optional}
use Rattle.meaning.specs.declared.tree.Member.{Member}
use Rattle.meaning.specs.declared.tree.Span.{Span}
use Rattle.program.specs.Program as program
use Rattle.program.specs.Program.{Instr, Jump, JumpIfTrue, JumpIfFalse, Emit, EmitRaw, EmitWith, LoopStart, LoopNext, WithStart, WithEnd, Include, IncludeWith, ExprStartVar, ExprStartLiteral, ExprStartList, ExprStartMap, ExprListPush, ExprMapInsert, Apply}
use Rattle.job.specs.Lines.{escaped, quoted, value_text}

-- what stands before a member
abbrev pub joint : (first : Bool) → AccessOp → List ℕ
joint first Optional = codes "?."
joint true Direct = []
joint false Direct = codes "."

abbrev pub instr_line : (number : ℕ) (words : List ℕ) → List ℕ
instr_line number words = codes "    " ++ (decimal number ++ codes " ") ++ words ++ codes "\n"

abbrev pub too_many_line : (count : ℕ) → List ℕ
too_many_line count =
    codes "  refused by cause 5, the template has too many instructions: " ++ (decimal count ++ codes "\n")

module _ (source : List ℕ) where
  -- the source under a span, as in double quotes but without them
  abbrev pub name_words : Span → List ℕ
  name_words s = escaped (text_at source s)

  abbrev pub access_words : Access → List ℕ
  access_words (Index n s) = decimal n
  access_words (Key s) = name_words s

  abbrev pub member_words : (first : Bool) → Member → List ℕ
  member_words first m = joint first m.op ++ access_words m.access

  -- members in a row
  abbrev pub path : (first : Bool) → List Member → List ℕ
  path first [] = []
  path first (m ∷ ms) = member_words first m ++ path false ms

  abbrev pub loop_words : LoopVars → List ℕ
  loop_words (Item s) = name_words s
  loop_words (KeyValue k v both) = name_words k ++ codes " " ++ name_words v

  -- a name, and the number of values taken
  abbrev pub applied_words : Span → ℕ → List ℕ
  applied_words name arity = name_words name ++ (codes " " ++ decimal arity)

  abbrev pub instr_words : Instr → List ℕ
  instr_words (Jump target) = codes "Jump " ++ decimal target
  instr_words (JumpIfTrue target) = codes "JumpIfTrue " ++ decimal target
  instr_words (JumpIfFalse target) = codes "JumpIfFalse " ++ decimal target
  instr_words Emit = codes "Emit"
  instr_words (EmitRaw s) = codes "EmitRaw " ++ quoted (text_at source s)
  instr_words (EmitWith name arity whole) = codes "EmitWith " ++ applied_words name arity
  instr_words (LoopStart vars s) = codes "LoopStart " ++ loop_words vars
  instr_words (LoopNext target) = codes "LoopNext " ++ decimal target
  instr_words (WithStart name) = codes "WithStart " ++ name_words name
  instr_words WithEnd = codes "WithEnd"
  instr_words (Include name) = codes "Include " ++ quoted name.text
  instr_words (IncludeWith name) = codes "IncludeWith " ++ quoted name.text
  instr_words (ExprStartVar v) = codes "ExprStartVar " ++ path true (members v)
  instr_words (ExprStartLiteral s v) = codes "ExprStartLiteral " ++ value_text v
  instr_words (ExprStartList s) = codes "ExprStartList"
  instr_words (ExprStartMap s) = codes "ExprStartMap"
  instr_words ExprListPush = codes "ExprListPush"
  instr_words (ExprMapInsert key) = codes "ExprMapInsert " ++ quoted key.text
  instr_words (Apply name arity whole) = codes "Apply " ++ applied_words name arity

  -- a line for each, numbered on from the number given
  abbrev pub instr_lines : (number : ℕ) → List Instr → List ℕ
  instr_lines number [] = []
  instr_lines number (i ∷ is) = instr_line number (instr_words i) ++ instr_lines (number + 1) is

  abbrev pub program_lines : List Instr → List ℕ
  program_lines code =
      codes "  program of " ++ (decimal (length code) ++ codes " instructions\n") ++ instr_lines 0 code

  abbrev pub listed : List Instr → List ℕ
  listed code = cond (nat_le (length code) 1024) (program_lines code) (too_many_line (length code))

  abbrev pub listing : Scope → List ℕ
  listing scope = listed (program.compile scope)
