-- What the compiler's functions promise: of the part of the tree that stands at their position, they write records that
-- mean exactly its instructions, and leave the rest of the slice as it was.
use Rattle.std.specs.Prelude.{◌≡◌, ℕ, ◌+◌, ◌<◌, ◌≤◌, Bool, true, false, List, ◌++◌, length}
use Rattle.meaning.specs.Tree.{Expr, BaseExpr, Base, Filter, Variable, Literal, ListOf, MapOf, Paren, Call, Stmt, Scope, LoopVars, For}
use Rattle.packing.specs.Limits.{most_bytes, BaseFits, StmtFits}
use Rattle.packing.specs.Packing.{pack_expr, pack_base, pack_args, pack_pairs, pack, pack_stmt}
use Rattle.program.specs.Program.{emit_expr, compile_expr, compile_base, compile_args, compile_items, compile_pairs, compile_stmt, compile_scope}
use Rattle.program.specs.Program as program
use Rattle.reader.specs.Heads.{BaseHead, StmtHead}
use Rattle.checker.specs.There.{Stands, ExprThere, BaseThere, ArgsThere, PairsThere, ScopeThere}
use Rattle.checker.specs.TreeHeads.{base_head_of, base_behind, stmt_head_of, stmt_behind}
use Rattle.compiler.specs.declared.instr.Instr.{Instr}
use Rattle.compiler.specs.declared.compile.Compiled.{Compiled}
use Rattle.compiler.specs.declared.writing.Compiler.{Compiler}
use Rattle.compiler.specs.Records.{Mean}
use Rattle.compiler.specs.Writing.{Wrote}

-- whether an expression's last instruction is an `Apply`: a filter or call, parens taken off
abbrev mutual
  pub applies : Expr → Bool
  applies (Base b) = base_applies b
  applies (Filter name whole receiver args) = true

  pub base_applies : BaseExpr → Bool
  base_applies (Variable v) = false
  base_applies (Literal s v) = false
  base_applies (ListOf s args) = false
  base_applies (MapOf s pairs) = false
  base_applies (Paren s e) = applies e
  base_applies (Call name whole args) = true

-- something stands in the tree, over some source that is short enough
pub record Over (P : List ℕ → Type 0) : Type 0 where
  pub source : List ℕ
  pub short : length source ≤ most_bytes
  pub there : P source

-- an expression other than a filter, from its command on and from behind it on
pub record BaseOver (source tree : List ℕ) (start : ℕ) (head : BaseHead) (pos : ℕ) : Type 0 where
  pub base : BaseExpr
  pub headed : base_head_of base ≡ head
  pub fits : BaseFits source base
  pub along : start < pos
  pub whole : Stands tree start (pack_base base)
  pub stands : Stands tree pos (base_behind base)
  pub ends : pos + length (base_behind base) ≡ start + length (pack_base base)

pub record StmtOver (source tree : List ℕ) (start : ℕ) (head : StmtHead) (pos : ℕ) : Type 0 where
  pub stmt : Stmt
  pub headed : stmt_head_of stmt ≡ head
  pub fits : StmtFits source stmt
  pub along : start < pos
  pub whole : Stands tree start (pack_stmt stmt)
  pub stands : Stands tree pos (stmt_behind stmt)
  pub ends : pos + length (stmt_behind stmt) ≡ start + length (pack_stmt stmt)

-- a loop, from its command on and from behind it on
pub record LoopOver (source tree : List ℕ) (start pos : ℕ) : Type 0 where
  pub vars : LoopVars
  pub expr : Expr
  pub scope : Scope
  pub fits : StmtFits source (For vars expr scope)
  pub along : start < pos
  pub whole : Stands tree start (pack_stmt (For vars expr scope))
  pub stands : Stands tree pos (pack_expr expr ++ pack scope)

-- the instructions are written, and behind them there are no others
pub record Made (tree : List ℕ) (code : List program.Instr) (before after : Compiler) : Type 0 where
  pub records : List Instr
  pub mean : Mean tree records code
  pub wrote : Wrote records before after

-- the tree is short, and there are no more instructions than bytes so far
pub record Room (tree : List ℕ) (pos len : ℕ) : Type 0 where
  pub short : length tree ≤ most_bytes
  pub fewer : len ≤ pos

-- from `start` up to `end`, which lies in the tree, there are at least as many bytes as there are new instructions
pub record Ahead (tree : List ℕ) (start len end next : ℕ) : Type 0 where
  pub within : end ≤ length tree
  pub counts : len ≤ next
  pub room : next + start ≤ len + end

module _ (tree : List ℕ) where
  -- the part up to `end` is compiled
  pub record PartMade (code : List program.Instr) (whole end : ℕ) (before after : Compiler) : Type 0 where
    pub made : Made tree code before after
    pub ends : end ≡ whole

  abbrev pub ExprIs : Expr → (whole : ℕ) → Compiled → (before after : Compiler) → Type 0
  ExprIs e whole r before after = PartMade (compile_expr e) whole r.end before after × (r.applied ≡ applies e)

  abbrev pub BaseIs : BaseExpr → (whole : ℕ) → Compiled → (before after : Compiler) → Type 0
  BaseIs b whole r before after = PartMade (compile_base b) whole r.end before after × (r.applied ≡ base_applies b)

  module _ (pos : ℕ) where
    abbrev pub ExprMade : Compiled → (before after : Compiler) → Type 0
    ExprMade r before after = (w : Over (λ s. ExprThere s tree pos)) → ExprIs w.there.expr (pos + length (pack_expr w.there.expr)) r before after

    abbrev pub BaseMade : Compiled → (before after : Compiler) → Type 0
    BaseMade r before after = (w : Over (λ s. BaseThere s tree pos)) → BaseIs w.there.base (pos + length (pack_base w.there.base)) r before after

    abbrev pub ArgsMade : (count end : ℕ) (before after : Compiler) → Type 0
    ArgsMade count end before after =
        (w : Over (λ s. ArgsThere s tree count pos)) → PartMade (compile_args w.there.args) (pos + length (pack_args w.there.args)) end before after

    abbrev pub ItemsMade : (count end : ℕ) (before after : Compiler) → Type 0
    ItemsMade count end before after =
        (w : Over (λ s. ArgsThere s tree count pos)) → PartMade (compile_items w.there.args) (pos + length (pack_args w.there.args)) end before after

    abbrev pub PairsMade : (count end : ℕ) (before after : Compiler) → Type 0
    PairsMade count end before after =
        (w : Over (λ s. PairsThere s tree count pos)) → PartMade (compile_pairs w.there.pairs) (pos + length (pack_pairs w.there.pairs)) end before after

    abbrev pub ScopeMade : (end : ℕ) (before after : Compiler) → Type 0
    ScopeMade end before after =
        (w : Over (λ s. ScopeThere s tree pos)) → PartMade (compile_scope w.there.scope before.len) (pos + length (pack w.there.scope)) end before after

  module _ (start pos : ℕ) where
    abbrev pub BehindMade : BaseHead → Compiled → (before after : Compiler) → Type 0
    BehindMade head r before after =
        (w : Over (λ s. BaseOver s tree start head pos)) → BaseIs w.there.base (pos + length (base_behind w.there.base)) r before after

    abbrev pub StmtMade : StmtHead → (end : ℕ) (before after : Compiler) → Type 0
    StmtMade head end before after =
        (w : Over (λ s. StmtOver s tree start head pos)) → PartMade (compile_stmt w.there.stmt before.len) (pos + length (stmt_behind w.there.stmt)) end before after

    abbrev pub LoopMade : (end : ℕ) (before after : Compiler) → Type 0
    LoopMade end before after =
        (w : Over (λ s. LoopOver s tree start pos))
        → PartMade (compile_stmt (For w.there.vars w.there.expr w.there.scope) before.len) (pos + length (pack_expr w.there.expr ++ pack w.there.scope)) end before after

-- what was compiled as an expression is then emitted
abbrev pub EmitMade : Compiled → (compiled emitted : Compiler) → Type 0
EmitMade r compiled emitted =
    (tree : List ℕ) (e : Expr) (before : Compiler)
    → Made tree (compile_expr e) before compiled → r.applied ≡ applies e → Made tree (emit_expr e) before emitted
