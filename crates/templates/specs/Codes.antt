-- An instruction as a tree of numbers, by which two of them are compared.
use Rattle.std.specs.Prelude.{ℕ, Bool, true, false, ◌&&◌, List, [], ◌∷◌, ℤ, pos, negsuc, ◌==◌}
use Rattle.meaning.specs.Value.{Value, Items, Entries, Text, none, boolean, integer, float, string, list, map, no_items, item, no_entries, entry}
use Rattle.meaning.specs.Tree.{String, Var, LoopVars, Item, KeyValue}
use Rattle.meaning.specs.declared.tree.Access.{Access}
use Rattle.meaning.specs.declared.tree.Access.TheVariants.{Index, Key}
use Rattle.meaning.specs.declared.tree.AccessOp.{AccessOp}
use Rattle.meaning.specs.declared.tree.AccessOp.TheVariants.{Direct, Optional}
use Rattle.meaning.specs.declared.tree.Member.{Member}
use Rattle.meaning.specs.declared.tree.Span.{Span}
use Rattle.program.specs.Program.{Instr, Jump, JumpIfTrue, JumpIfFalse, Emit, EmitRaw, EmitWith, LoopStart, LoopNext, WithStart, WithEnd, Include, IncludeWith, ExprStartVar, ExprStartLiteral, ExprStartList, ExprStartMap, ExprListPush, ExprMapInsert, Apply}

pub data Code : Type 0 where
  leaf : ℕ → Code
  pair : Code → Code → Code

unfoldable pub same : Code → Code → Bool
same (leaf m) (leaf n) = m == n
same (leaf m) (pair c d) = false
same (pair a b) (leaf n) = false
same (pair a b) (pair c d) = same a c && same b d

-- a case, by its number, with what it holds
abbrev tagged : ℕ → Code → Code
tagged tag held = pair (leaf tag) held

unfoldable pub text_code : Text → Code
text_code [] = leaf 0
text_code (b ∷ bs) = pair (leaf b) (text_code bs)

unfoldable pub bool_code : Bool → Code
bool_code false = leaf 0
bool_code true = leaf 1

unfoldable pub int_code : ℤ → Code
int_code (pos n) = tagged 0 (leaf n)
int_code (negsuc n) = tagged 1 (leaf n)

unfoldable mutual
  pub value_code : Value → Code
  value_code none = tagged 0 (leaf 0)
  value_code (boolean b) = tagged 1 (bool_code b)
  value_code (integer n) = tagged 2 (int_code n)
  value_code (float bits) = tagged 3 (leaf bits)
  value_code (string t) = tagged 4 (text_code t)
  value_code (list items) = tagged 5 (items_code items)
  value_code (map entries) = tagged 6 (entries_code entries)

  pub items_code : Items → Code
  items_code no_items = leaf 0
  items_code (item v items) = pair (value_code v) (items_code items)

  pub entries_code : Entries → Code
  entries_code no_entries = leaf 0
  entries_code (entry key v entries) = pair (text_code key) (pair (value_code v) (entries_code entries))

unfoldable pub span_code : Span → Code
span_code s = pair (leaf s.start) (leaf s.end)

unfoldable pub op_code : AccessOp → Code
op_code Direct = leaf 0
op_code Optional = leaf 1

unfoldable pub access_code : Access → Code
access_code (Index n s) = tagged 0 (pair (leaf n) (span_code s))
access_code (Key s) = tagged 1 (span_code s)

unfoldable pub member_code : Member → Code
member_code m = pair (op_code m.op) (pair (access_code m.access) (span_code m.span))

unfoldable pub members_code : List Member → Code
members_code [] = leaf 0
members_code (m ∷ ms) = pair (member_code m) (members_code ms)

unfoldable pub var_code : Var → Code
var_code v = pair (member_code v.first) (members_code v.rest)

unfoldable pub string_code : String → Code
string_code s = pair (span_code s.span) (text_code s.text)

unfoldable pub loop_code : LoopVars → Code
loop_code (Item s) = tagged 0 (span_code s)
loop_code (KeyValue key value both) = tagged 1 (pair (span_code key) (pair (span_code value) (span_code both)))

unfoldable pub callee_code : Span → ℕ → Span → Code
callee_code name arity whole = pair (span_code name) (pair (leaf arity) (span_code whole))

unfoldable pub instr_code : Instr → Code
instr_code (Jump target) = tagged 0 (leaf target)
instr_code (JumpIfTrue target) = tagged 1 (leaf target)
instr_code (JumpIfFalse target) = tagged 2 (leaf target)
instr_code Emit = tagged 3 (leaf 0)
instr_code (EmitRaw s) = tagged 4 (span_code s)
instr_code (EmitWith name arity whole) = tagged 5 (callee_code name arity whole)
instr_code (LoopStart vars iterable) = tagged 6 (pair (loop_code vars) (span_code iterable))
instr_code (LoopNext target) = tagged 7 (leaf target)
instr_code (WithStart name) = tagged 8 (span_code name)
instr_code WithEnd = tagged 9 (leaf 0)
instr_code (Include name) = tagged 10 (string_code name)
instr_code (IncludeWith name) = tagged 11 (string_code name)
instr_code (ExprStartVar v) = tagged 12 (var_code v)
instr_code (ExprStartLiteral s v) = tagged 13 (pair (span_code s) (value_code v))
instr_code (ExprStartList s) = tagged 14 (span_code s)
instr_code (ExprStartMap s) = tagged 15 (span_code s)
instr_code ExprListPush = tagged 16 (leaf 0)
instr_code (ExprMapInsert key) = tagged 17 (string_code key)
instr_code (Apply name arity whole) = tagged 18 (callee_code name arity whole)
