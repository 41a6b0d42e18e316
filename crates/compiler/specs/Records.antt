-- What a record means: its operands are read where they stand in the tree.
use Rattle.std.specs.Prelude.{◌≡◌, ℕ, List, [], ◌∷◌, drop}
use Rattle.std.proofs.Math.Option.{Option, none, some}
use Rattle.meaning.specs.Or.{fails, gives}
use Rattle.meaning.specs.declared.tree.Member.{Member}
use Rattle.meaning.specs.declared.tree.Span.{Span}
use Rattle.meaning.specs.Tree.{LoopVars, Item, KeyValue}
use Rattle.meaning.specs.Spans.{combine, last_member}
use Rattle.packing.specs.Reader.{Outcome}
use Rattle.packing.specs.Unpacking.{span, string_of, variable}
use Rattle.program.specs.Program as program
use Rattle.reader.specs.AfterByte.{plain_head}
use Rattle.reader.specs.Heads.{VariableHead, LiteralHead, ListHead, EmptyMapHead, MapHead, ParenHead, CallHead, ExprHead, BaseOf, FilterHead, RawHead, InlineHead, IncludeHead, IncludeWithHead, IfHead, IfElseHead, ForItemHead, ForPairHead, WithHead, ScopeHead, StmtOf, EndHead, expr_head, scope_head}
use Rattle.compiler.specs.declared.instr.Instr.{Instr}
use Rattle.compiler.specs.declared.instr.Op.{Op}

-- what is made of an operand, if there is one
abbrev pub from_read : {A B : Type 0} → Outcome A → (A → List ℕ → Option B) → Option B
from_read (gives (a, s)) then = then a s
from_read (fails f) then = none

-- the span of an expression, by its head
abbrev pub members_span : List Member → Option Span
members_span [] = none
members_span (m ∷ ms) = some (combine m.span (last_member m ms).span)

abbrev pub head_span : ExprHead → Option Span
head_span (BaseOf (VariableHead ms)) = members_span ms
head_span (BaseOf (LiteralHead s)) = some s
head_span (BaseOf (ListHead s n)) = some s
head_span (BaseOf (EmptyMapHead s)) = some s
head_span (BaseOf (MapHead s k n)) = some s
head_span (BaseOf (ParenHead s)) = some s
head_span (BaseOf (CallHead name whole n)) = some whole
head_span (FilterHead name whole n) = some whole

abbrev pub loop_names : ScopeHead → Option LoopVars
loop_names (StmtOf (ForItemHead s)) = some (Item s)
loop_names (StmtOf (ForPairHead k v both)) = some (KeyValue k v both)
loop_names (StmtOf (RawHead s)) = none
loop_names (StmtOf InlineHead) = none
loop_names (StmtOf (IncludeHead name)) = none
loop_names (StmtOf (IncludeWithHead name)) = none
loop_names (StmtOf (IfHead negated)) = none
loop_names (StmtOf (IfElseHead negated)) = none
loop_names (StmtOf (WithHead s)) = none
loop_names EndHead = none

abbrev pub both : {A B C : Type 0} → Option A → Option B → (A → B → C) → Option C
both (some a) (some b) f = some (f a b)
both (some a) none f = none
both none b f = none

module _ (tree : List ℕ) where
  -- one operand, at a position
  abbrev pub operand : {A : Type 0} → ((at : ℕ) → List ℕ → Outcome A) → ℕ → (A → program.Instr) → Option program.Instr
  operand reader at make = from_read (reader 0 (drop at tree)) (λ a s. some (make a))

  -- name and whole of a call, one behind the other
  abbrev pub callee_operands : ℕ → (Span → Span → program.Instr) → Option program.Instr
  callee_operands at make = from_read (span 0 (drop at tree)) (λ name s. from_read (span 0 s) (λ whole t. some (make name whole)))

  abbrev pub literal_operands : ℕ → Option program.Instr
  literal_operands at = from_read (span 0 (drop at tree)) (λ p s. from_read (plain_head 0 s) (λ v t. some (program.ExprStartLiteral p v)))

  -- a loop's names, and behind them the span of what it goes over
  abbrev pub loop_operands : ℕ → Option program.Instr
  loop_operands at = from_read (scope_head 0 (drop at tree)) (λ h s. from_read (expr_head 0 s) (λ e t. both (loop_names h) (head_span e) program.LoopStart))

  abbrev pub meant : Op → (at arity target : ℕ) → Option program.Instr
  meant Op.Jump at arity target = some (program.Jump target)
  meant Op.JumpIfTrue at arity target = some (program.JumpIfTrue target)
  meant Op.JumpIfFalse at arity target = some (program.JumpIfFalse target)
  meant Op.Emit at arity target = some program.Emit
  meant Op.EmitRaw at arity target = operand span at program.EmitRaw
  meant Op.EmitWith at arity target = callee_operands at (λ name whole. program.EmitWith name arity whole)
  meant Op.LoopStart at arity target = loop_operands at
  meant Op.LoopNext at arity target = some (program.LoopNext target)
  meant Op.WithStart at arity target = operand span at program.WithStart
  meant Op.WithEnd at arity target = some program.WithEnd
  meant Op.Include at arity target = operand string_of at program.Include
  meant Op.IncludeWith at arity target = operand string_of at program.IncludeWith
  meant Op.ExprStartVar at arity target = operand variable at program.ExprStartVar
  meant Op.ExprStartLiteral at arity target = literal_operands at
  meant Op.ExprStartList at arity target = operand span at program.ExprStartList
  meant Op.ExprStartMap at arity target = operand span at program.ExprStartMap
  meant Op.ExprListPush at arity target = some program.ExprListPush
  meant Op.ExprMapInsert at arity target = operand string_of at program.ExprMapInsert
  meant Op.Apply at arity target = callee_operands at (λ name whole. program.Apply name arity whole)

  -- the instruction that a record means
  abbrev pub instr_of : Instr → Option program.Instr
  instr_of i = meant i.op i.at i.arity i.target

  -- the records mean the instructions, one by one
  abbrev pub Mean : List Instr → List program.Instr → Type 0
  Mean [] [] = Unit {0}
  Mean [] (x ∷ xs) = ⊥
  Mean (i ∷ is) [] = ⊥
  Mean (i ∷ is) (x ∷ xs) = (instr_of i ≡ some x) × Mean is xs
