-- That a part of a tree stands packed at a position: what a walk over a checked template rests on.
use Rattle.std.specs.Prelude.{◌≡◌, ℕ, ◌+◌, ◌≤◌, List, ◌++◌, length, drop}
use Rattle.meaning.specs.Value.{Value}
use Rattle.meaning.specs.Tree.{Expr, BaseExpr, Args, Pairs, Stmt, Scope, count_args, count_pairs}
use Rattle.packing.specs.Packing.{pack_value, pack_expr, pack_base, pack_args, pack_pairs, pack}
use Rattle.packing.specs.Limits.{Simple, ValueFits, ExprFits, BaseFits, ArgsFit, PairsFit, StmtFits, ScopeFits}
use Rattle.reader.specs.Heads.{BaseHead, StmtHead}
use Rattle.checker.specs.TreeHeads.{base_head_of, base_behind, stmt_head_of, stmt_behind}

-- the bytes stand in the tree, from the position on
pub record Stands (tree : List ℕ) (pos : ℕ) (part : List ℕ) : Type 0 where
  pub reads : drop pos tree ≡ part ++ drop (pos + length part) tree
  pub within : pos + length part ≤ length tree

-- a literal's value
pub record ValueThere (tree : List ℕ) (pos : ℕ) : Type 0 where
  pub value : Value
  pub simple : Simple value
  pub fits : ValueFits value
  pub stands : Stands tree pos (pack_value value)

module _ (source tree : List ℕ) where
  pub record ExprThere (pos : ℕ) : Type 0 where
    pub expr : Expr
    pub fits : ExprFits source expr
    pub stands : Stands tree pos (pack_expr expr)

  pub record BaseThere (pos : ℕ) : Type 0 where
    pub base : BaseExpr
    pub fits : BaseFits source base
    pub stands : Stands tree pos (pack_base base)

  pub record ArgsThere (count pos : ℕ) : Type 0 where
    pub args : Args
    pub counted : count_args args ≡ count
    pub fits : ArgsFit source args
    pub stands : Stands tree pos (pack_args args)

  pub record PairsThere (count pos : ℕ) : Type 0 where
    pub pairs : Pairs
    pub counted : count_pairs pairs ≡ count
    pub fits : PairsFit source pairs
    pub stands : Stands tree pos (pack_pairs pairs)

  pub record ScopeThere (pos : ℕ) : Type 0 where
    pub scope : Scope
    pub fits : ScopeFits source scope
    pub stands : Stands tree pos (pack scope)

  -- what stands behind the head of an expression other than a filter, or of a statement
  pub record BehindBase (head : BaseHead) (pos : ℕ) : Type 0 where
    pub base : BaseExpr
    pub headed : base_head_of base ≡ head
    pub fits : BaseFits source base
    pub stands : Stands tree pos (base_behind base)

  pub record BehindStmt (head : StmtHead) (pos : ℕ) : Type 0 where
    pub stmt : Stmt
    pub headed : stmt_head_of stmt ≡ head
    pub fits : StmtFits source stmt
    pub stands : Stands tree pos (stmt_behind stmt)

  -- the expression and the statements of a block
  pub record NestedThere (pos : ℕ) : Type 0 where
    pub expr : Expr
    pub scope : Scope
    pub expr_fits : ExprFits source expr
    pub scope_fits : ScopeFits source scope
    pub stands : Stands tree pos (pack_expr expr ++ pack scope)
