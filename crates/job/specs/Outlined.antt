-- What the walk that writes an outline promises: of the part that stands at its position, its lines, and the position after it.
use Rattle.std.specs.Prelude.{◌≡◌, ℕ, ◌+◌, List, length, IfOk, Result}
use Rattle.std.specs.declared.alloc.AllocError.{AllocError}
use Rattle.reader.specs.Heads.{BaseHead, StmtHead}
use Rattle.packing.specs.Packing.{pack_value, pack_expr, pack_base, pack_args, pack_pairs, pack}
use Rattle.checker.specs.There.{ExprThere, BaseThere, ArgsThere, PairsThere, ScopeThere, BehindBase, BehindStmt, NestedThere, ValueThere}
use Rattle.checker.specs.TreeHeads.{base_behind, stmt_behind}
use Rattle.job.specs.Lines.{Wrote, value_line}
use Rattle.job.specs.Outline.{outline_expr, outline_base, outline_args, outline_pairs, outline_stmt, outline_scope, nested}

pub record Outlined (text : List ℕ) (end : ℕ) (r : Result ℕ AllocError) (before after : List ℕ) : Type 0 where
  pub wrote : Wrote text r before after
  pub ends : IfOk r (λ next. next ≡ end)

abbrev pub ValueOutlined : (tree : List ℕ) (pos depth : ℕ) (r : Result ℕ AllocError) (before after : List ℕ) → Type 0
ValueOutlined tree pos depth r before after =
    (w : ValueThere tree pos) → Outlined (value_line depth w.value) (pos + length (pack_value w.value)) r before after

module _ (source tree : List ℕ) (pos depth : ℕ) (r : Result ℕ AllocError) (before after : List ℕ) where
  abbrev pub ExprOutlined : Type 0
  ExprOutlined =
      (w : ExprThere source tree pos) → Outlined (outline_expr source depth w.expr) (pos + length (pack_expr w.expr)) r before after

  abbrev pub BaseOutlined : Type 0
  BaseOutlined =
      (w : BaseThere source tree pos) → Outlined (outline_base source depth w.base) (pos + length (pack_base w.base)) r before after

  abbrev pub BehindOutlined : BaseHead → Type 0
  BehindOutlined head =
      (w : BehindBase source tree head pos) → Outlined (outline_base source depth w.base) (pos + length (base_behind w.base)) r before after

  abbrev pub ArgsOutlined : ℕ → Type 0
  ArgsOutlined count =
      (w : ArgsThere source tree count pos) → Outlined (outline_args source depth w.args) (pos + length (pack_args w.args)) r before after

  abbrev pub PairsOutlined : ℕ → Type 0
  PairsOutlined count =
      (w : PairsThere source tree count pos) → Outlined (outline_pairs source depth w.pairs) (pos + length (pack_pairs w.pairs)) r before after

  abbrev pub ScopeOutlined : Type 0
  ScopeOutlined =
      (w : ScopeThere source tree pos) → Outlined (outline_scope source depth w.scope) (pos + length (pack w.scope)) r before after

  abbrev pub StmtOutlined : StmtHead → Type 0
  StmtOutlined head =
      (w : BehindStmt source tree head pos) → Outlined (outline_stmt source depth w.stmt) (pos + length (stmt_behind w.stmt)) r before after

  abbrev pub NestedOutlined : List ℕ → Type 0
  NestedOutlined label =
      (w : NestedThere source tree pos)
      → Outlined (nested depth (outline_expr source (depth + 1) w.expr) label (outline_scope source (depth + 1) w.scope))
      (pos + length (pack_expr w.expr) + length (pack w.scope)) r before after
