-- What is outlined of a part, once what is outlined of the parts within it is known.
use Rattle.std.proofs.Common.{◌≡◌, ℕ, ◌+◌, ◌≤◌, List, ◌++◌, length, IfOk, Some, Ok, Err, codes, Result, sym, ◌∙◌, subst, arith, length-append}
use Rattle.std.specs.declared.alloc.AllocError.{AllocError}
use Rattle.meaning.specs.declared.tree.Span.{Span}
use Rattle.meaning.specs.Tree.{Expr, BaseExpr, Args, Stmt, Scope, Base, Filter}
use Rattle.packing.specs.Limits.{most_bytes}
use Rattle.packing.specs.Packing.{pack, pack_expr, pack_args}
use Rattle.reader.specs.declared.command.ExprCommand.{ExprCommand}
use Rattle.reader.specs.declared.command.ScopeCommand.{ScopeCommand}
use Rattle.reader.specs.Fields.{Takes}
use Rattle.reader.specs.Heads.{BaseHead, ExprHead, ScopeHead, StmtHead, expr_head, scope_head}
use Rattle.reader.specs.Meanings.{expr_of, scope_of}
use Rattle.checker.specs.There.{BehindBase, BehindStmt, ExprThere}
use Rattle.checker.specs.TreeHeads.{base_behind, expr_behind, scope_behind, stmt_behind}
use Rattle.checker.proofs.Parts.{BaseParts, ExprParts, ScopeParts, StmtParts, base_parts, expr_parts, scope_parts, stmt_parts}
use Rattle.checker.proofs.Walking.{expr_headed, scope_headed}
use Rattle.job.proofs.Rows.{ScopeLeft}
use Rattle.job.specs.Lines.{Adds, spans_line}
use Rattle.job.specs.Outline.{outline_expr, outline_base, outline_args, outline_stmt}
use Rattle.job.specs.Outlined.{Outlined}
use Rattle.job.proofs.Writing.{then_adds, then_wrote}

-- WHAT STANDS BEHIND A HEAD

module _ {source tree : List ℕ} {pos : ℕ} where
  pub base_there : {head : BaseHead} (w : BehindBase source tree head pos) (is : BaseHead) → head ≡ is → BaseParts source tree pos w.base is
  base_there w is e = base_parts source tree pos w.base is (w.headed ∙ e) w.fits w.stands

  pub stmt_there : {head : StmtHead} (w : BehindStmt source tree head pos) (is : StmtHead) → head ≡ is → StmtParts source tree pos w.stmt is
  stmt_there w is e = stmt_parts source tree pos w.stmt is (w.headed ∙ e) w.fits w.stands

-- where an expression stands, the command that is read says which one it is
pub expr_next : {source tree : List ℕ} {pos : ℕ} → length source ≤ most_bytes → (w : ExprThere source tree pos) (x : ExprCommand) (next : ℕ) → next ≤ length tree → Takes expr_of tree pos expr_head (Some (x, next)) → (is : ExprHead) → expr_of x ≡ is → (next + length (expr_behind w.expr) ≡ pos + length (pack_expr w.expr)) × ExprParts source tree next w.expr is
expr_next {source} {tree} {pos} short w x next inside takes is e =
    let headed = expr_headed source tree pos short w x next inside takes in
    (headed.ends, expr_parts source tree next w.expr is (sym headed.head ∙ e) w.fits headed.stands)

-- the same of the statements that are left
pub scope_next : {source tree : List ℕ} {depth end at : ℕ} {all : Scope} {before now : List ℕ} → length source ≤ most_bytes → (left : ScopeLeft source tree depth all end before at now) (x : ScopeCommand) (next : ℕ) → next ≤ length tree → Takes scope_of tree at scope_head (Some (x, next)) → (is : ScopeHead) → scope_of x ≡ is → (next + length (scope_behind left.rest) ≡ at + length (pack left.rest)) × ScopeParts source tree next left.rest is
scope_next {source = source} {tree = tree} {at = at} short left x next inside takes is e =
    let headed = scope_headed source tree at short (record { scope = left.rest; fits = left.fits; stands = left.stands }) x next inside takes in
    (headed.ends, scope_parts source tree next left.rest is (sym headed.head ∙ e) left.fits headed.stands)

-- ONE AFTER ANOTHER

pub outlined_end : {a x y : List ℕ} {m n : ℕ} (r : Result ℕ AllocError) → m ≡ n → Outlined a m r x y → Outlined a n r x y
outlined_end {m = m} {n = n} r same o = record { wrote = o.wrote; ends = by r o.ends }
  where
    by : (r : Result ℕ AllocError) → IfOk r (λ next. next ≡ m) → IfOk r (λ next. next ≡ n)
    by (Ok next) e = e ∙ same
    by (Err err) e = tt

pub outlined_then : {a b x y z : List ℕ} {m : ℕ} (r : Result ℕ AllocError) → Adds a x y → Outlined b m r y z → Outlined (a ++ b) m r x z
outlined_then r e o = record { wrote = then_wrote r e o.wrote; ends = o.ends }

-- PARTS

module _ (source : List ℕ) (depth : ℕ) (r : Result ℕ AllocError) (x z : List ℕ) where
  -- an expression other than a filter, by what it is
  pub behind_arm : (pos : ℕ) (b is : BaseExpr) → b ≡ is → Outlined (outline_base source depth is) (pos + length (base_behind is)) r x z → Outlined (outline_base source depth b) (pos + length (base_behind b)) r x z
  behind_arm pos b is e o = subst (λ b. Outlined (outline_base source depth b) (pos + length (base_behind b)) r x z) (sym e) o

  pub base_arm : (e : Expr) (b : BaseExpr) (next end : ℕ) → e ≡ Base b → next + length (expr_behind e) ≡ end → Outlined (outline_base source depth b) (next + length (base_behind b)) r x z → Outlined (outline_expr source depth e) end r x z
  unfolding outline_expr
  base_arm e b next end is ends o =
      subst (λ e. next + length (expr_behind e) ≡ end → Outlined (outline_expr source depth e) end r x z) (sym is) (λ same. outlined_end r same o) ends

  pub filter_arm : (e receiver : Expr) (args : Args) (name whole : Span) (next after end : ℕ) (y y' : List ℕ) → e ≡ Filter name whole receiver args → next + length (expr_behind e) ≡ end → Adds (spans_line source depth (codes "filter") whole name) x y → Outlined (outline_expr source (depth + 1) receiver) (next + length (pack_expr receiver)) (Ok after) y y' → Outlined (outline_args source (depth + 1) args) (after + length (pack_args args)) r y' z → Outlined (outline_expr source depth e) end r x z
  unfolding outline_expr
  filter_arm e receiver args name whole next after end y y' is ends line first rest =
      let moved = first.ends in
      let size : length (pack_expr receiver ++ pack_args args) ≡ length (pack_expr receiver) + length (pack_args args) = length-append (pack_expr receiver) (pack_args args) in
      subst (λ e. next + length (expr_behind e) ≡ end → Outlined (outline_expr source depth e) end r x z) (sym is)
      (λ same. outlined_end r (omega arith) (outlined_then r (then_adds line first.wrote.adds) rest)) ends

  -- a statement, by what it is
  pub stmt_arm : (pos : ℕ) (s is : Stmt) → s ≡ is → Outlined (outline_stmt source depth is) (pos + length (stmt_behind is)) r x z → Outlined (outline_stmt source depth s) (pos + length (stmt_behind s)) r x z
  stmt_arm pos s is e o = subst (λ s. Outlined (outline_stmt source depth s) (pos + length (stmt_behind s)) r x z) (sym e) o
