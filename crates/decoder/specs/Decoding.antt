-- What a decoded instruction means.
use Rattle.std.specs.Prelude.{◌≤◌, List, [], ◌∷◌, length, Some, None}
use Rattle.std.proofs.Math.Option.{Option, none, some}
use Rattle.std.specs.declared.option.Option as code
use Rattle.meaning.specs.declared.tree.Member.{Member}
use Rattle.meaning.specs.declared.tree.Span.{Span}
use Rattle.meaning.specs.Tree.{LoopVars, Item, KeyValue}
use Rattle.program.specs.Program as program
use Rattle.reader.specs.Fields.{members_of, text_of}
use Rattle.reader.specs.Meanings.{plain_of}
use Rattle.decoder.specs.declared.decoded.Decoded.{Decoded}
use Rattle.decoder.specs.declared.decoded.Decoded.TheVariants as instr
use Rattle.decoder.specs.declared.decoded.LoopVars as decoded
use Rattle.decoder.specs.declared.decoded.LoopVars.TheVariants as vars

-- an answer of code, `f` of it being what it means
abbrev pub found : {A X : Type 0} → (X → A) → code.Option X → Option A
found f (Some x) = some (f x)
found f None = none

abbrev pub loop_vars_of : decoded.LoopVars → LoopVars
loop_vars_of (vars.Item s) = Item s
loop_vars_of (vars.KeyValue k v both) = KeyValue k v both

-- names and iterable of a loop
abbrev pub loop_of : decoded.LoopVars × Span → program.Instr
loop_of l = program.LoopStart (loop_vars_of l.0) l.1

-- a variable has one member or more
abbrev pub variable_of : List Member → Option program.Instr
variable_of [] = none
variable_of (m ∷ ms) = some (program.ExprStartVar (record { first = m; rest = ms }))

abbrev pub decoded_instr : Decoded → Option program.Instr
decoded_instr (instr.Jump target) = some (program.Jump target)
decoded_instr (instr.JumpIfTrue target) = some (program.JumpIfTrue target)
decoded_instr (instr.JumpIfFalse target) = some (program.JumpIfFalse target)
decoded_instr instr.Emit = some program.Emit
decoded_instr (instr.EmitRaw s) = some (program.EmitRaw s)
decoded_instr (instr.EmitWith name n whole) = some (program.EmitWith name n whole)
decoded_instr (instr.LoopStart vars iterable) = some (program.LoopStart (loop_vars_of vars) iterable)
decoded_instr (instr.LoopNext target) = some (program.LoopNext target)
decoded_instr (instr.WithStart name) = some (program.WithStart name)
decoded_instr instr.WithEnd = some program.WithEnd
decoded_instr (instr.Include name) = some (program.Include (text_of name))
decoded_instr (instr.IncludeWith name) = some (program.IncludeWith (text_of name))
decoded_instr (instr.ExprStartVar ms) = variable_of (members_of ms)
decoded_instr (instr.ExprStartLiteral s v) = some (program.ExprStartLiteral s (plain_of v))
decoded_instr (instr.ExprStartList s) = some (program.ExprStartList s)
decoded_instr (instr.ExprStartMap s) = some (program.ExprStartMap s)
decoded_instr instr.ExprListPush = some program.ExprListPush
decoded_instr (instr.ExprMapInsert key) = some (program.ExprMapInsert (text_of key))
decoded_instr (instr.Apply name n whole) = some (program.Apply name n whole)

-- what an answer means
abbrev pub meaning : code.Option Decoded → Option program.Instr
meaning (Some d) = decoded_instr d
meaning None = none

-- a variable has some member
abbrev pub IsSound : Decoded → Type 0
IsSound (instr.Jump t) = Unit {0}
IsSound (instr.JumpIfTrue t) = Unit {0}
IsSound (instr.JumpIfFalse t) = Unit {0}
IsSound instr.Emit = Unit {0}
IsSound (instr.EmitRaw s) = Unit {0}
IsSound (instr.EmitWith name n whole) = Unit {0}
IsSound (instr.LoopStart vars iterable) = Unit {0}
IsSound (instr.LoopNext t) = Unit {0}
IsSound (instr.WithStart name) = Unit {0}
IsSound instr.WithEnd = Unit {0}
IsSound (instr.Include name) = Unit {0}
IsSound (instr.IncludeWith name) = Unit {0}
IsSound (instr.ExprStartVar ms) = 1 ≤ length (members_of ms)
IsSound (instr.ExprStartLiteral s v) = Unit {0}
IsSound (instr.ExprStartList s) = Unit {0}
IsSound (instr.ExprStartMap s) = Unit {0}
IsSound instr.ExprListPush = Unit {0}
IsSound (instr.ExprMapInsert key) = Unit {0}
IsSound (instr.Apply name n whole) = Unit {0}

abbrev pub Sound : code.Option Decoded → Type 0
Sound (Some d) = IsSound d
Sound None = Unit {0}
