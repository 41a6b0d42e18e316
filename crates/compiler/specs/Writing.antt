-- How a program is written into a slice. An index past the slice's end writes nothing.
use Rattle.std.specs.Prelude.{◌≡◌, ℕ, zero, suc, ◌+◌, ◌-◌, List, [], ◌∷◌, length, slice_set}
use Rattle.compiler.specs.declared.instr.Instr.{Instr}
use Rattle.compiler.specs.declared.instr.Op.{Op}
use Rattle.compiler.specs.declared.writing.Compiler.{Compiler}

-- the slice with the records from index `at` on
unfoldable pub written : List Instr → ℕ → List Instr → List Instr
written instrs at [] = instrs
written instrs at (i ∷ more) = written (slice_set instrs at i) (at + 1) more

-- the slice with something else made of the record at an index
unfoldable pub changed : (Instr → Instr) → List Instr → ℕ → List Instr
changed f [] at = []
changed f (i ∷ instrs) zero = f i ∷ instrs
changed f (i ∷ instrs) (suc at) = i ∷ changed f instrs at

-- the instruction with another target
abbrev pub aimed : ℕ → Instr → Instr
aimed target i = record { op = i.op; at = i.at; arity = i.arity; target = target }

abbrev pub patched : List Instr → ℕ → ℕ → List Instr
patched instrs jump target = changed (aimed target) instrs jump

abbrev pub emitting : Instr → Instr
emitting i = record { op = Op.EmitWith; at = i.at; arity = i.arity; target = i.target }

abbrev pub retagged : List Instr → ℕ → List Instr
retagged instrs last = changed emitting instrs last

-- one record more
pub record Pushed (i : Instr) (before after : Compiler) : Type 0 where
  pub counts : after.len ≡ before.len + 1
  pub writes : after.instrs.now ≡ slice_set before.instrs.now before.len i

-- a jump has its target
pub record Patched (jump target : ℕ) (before after : Compiler) : Type 0 where
  pub counts : after.len ≡ before.len
  pub writes : after.instrs.now ≡ patched before.instrs.now jump target

-- the last record emits
pub record Emitting (before after : Compiler) : Type 0 where
  pub counts : after.len ≡ before.len
  pub writes : after.instrs.now ≡ retagged before.instrs.now (before.len - 1)

-- the records stand behind those before them, and all else is as it was
pub record Wrote (records : List Instr) (before after : Compiler) : Type 0 where
  pub counts : after.len ≡ before.len + length records
  pub writes : after.instrs.now ≡ written before.instrs.now before.len records
