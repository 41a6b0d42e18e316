-- The records that the compiler makes.
use Rattle.std.specs.Prelude.{ℕ, Bool, true, false}
use Rattle.compiler.specs.declared.instr.Instr.{Instr}
use Rattle.compiler.specs.declared.instr.Op.{Op}

abbrev pub plain_record : Op → ℕ → Instr
plain_record op at = record { op = op; at = at; arity = 0; target = 0 }

abbrev pub jump_record : (op : Op) (target : ℕ) → Instr
jump_record op target = record { op = op; at = 0; arity = 0; target = target }

-- the jump past a branch
abbrev pub past_op : Bool → Op
past_op true = Op.JumpIfTrue
past_op false = Op.JumpIfFalse

abbrev pub apply_record : (at arity : ℕ) → Instr
apply_record at arity = record { op = Op.Apply; at = at; arity = arity; target = 0 }
