-- The spans of a tree at which its faults and pieces are reported.
use Rattle.std.proofs.Common.{List, [], ◌∷◌}
use Rattle.meaning.specs.declared.tree.Span.{Span}
use Rattle.meaning.specs.declared.tree.Member.{Member}
use Rattle.meaning.specs.Tree.{Var, Expr, Base, Filter, BaseExpr, Variable, Literal, ListOf, MapOf, Paren, Call, Args, no_args, arg, Pairs, no_pairs, pair, LoopVars, Item, KeyValue, Stmt, Raw, Inline, Include, IncludeWith, If, IfElse, For, With, Scope, done, ◌then◌}
use Rattle.meaning.specs.Spans.{combine, last_member, var_span, base_span, expr_span, value_span, base_value_span}

-- each of them is good
module _ (Good : Span → Type 0) where
  abbrev pub MembersGood : List Member → Type 0
  MembersGood [] = Unit {0}
  MembersGood (m ∷ ms) = Good m.span × MembersGood ms

  abbrev mutual
    pub ExprGood : Expr → Type 0
    ExprGood (Base b) = BaseGood b
    ExprGood (Filter name whole receiver args) = Good name × Good whole × ExprGood receiver × ArgsGood args

    pub BaseGood : BaseExpr → Type 0
    BaseGood (Variable v) = Good v.first.span × MembersGood v.rest
    BaseGood (Literal span v) = Good span
    BaseGood (ListOf span items) = Good span × ArgsGood items
    BaseGood (MapOf span pairs) = Good span × PairsGood pairs
    BaseGood (Paren span e) = Good span × ExprGood e
    BaseGood (Call name whole args) = Good name × Good whole × ArgsGood args

    pub ArgsGood : Args → Type 0
    ArgsGood no_args = Unit {0}
    ArgsGood (arg b rest) = BaseGood b × ArgsGood rest

    pub PairsGood : Pairs → Type 0
    PairsGood no_pairs = Unit {0}
    PairsGood (pair k b rest) = BaseGood b × PairsGood rest

  abbrev pub VarsGood : LoopVars → Type 0
  VarsGood (Item name) = Good name
  VarsGood (KeyValue k w both) = Good both

  abbrev mutual
    pub StmtGood : Stmt → Type 0
    StmtGood (Raw span) = Unit {0}
    StmtGood (Inline e) = ExprGood e
    StmtGood (Include other) = Good other.span
    StmtGood (IncludeWith other e) = Good other.span × ExprGood e
    StmtGood (If negated e body) = ExprGood e × ScopeGood body
    StmtGood (IfElse negated e body otherwise) = ExprGood e × ScopeGood body × ScopeGood otherwise
    StmtGood (For vars e body) = VarsGood vars × ExprGood e × ScopeGood body
    StmtGood (With alias e body) = ExprGood e × ScopeGood body

    pub ScopeGood : Scope → Type 0
    ScopeGood done = Unit {0}
    ScopeGood (stmt then rest) = StmtGood stmt × ScopeGood rest

  -- and so are the spans made of them
  module _ (joins : (a b : Span) → Good a → Good b → Good (combine a b)) where
    last_good : (m : Member) (ms : List Member) → Good m.span → MembersGood ms → Good (last_member m ms).span
    last_good m [] good more = good
    last_good m (n ∷ ms) good more = last_good n ms more.0 more.1

    pub var_good : (v : Var) → BaseGood (Variable v) → Good (var_span v)
    var_good v good = joins v.first.span (last_member v.first v.rest).span good.0 (last_good v.first v.rest good.0 good.1)

    mutual
      pub value_good : (e : Expr) → ExprGood e → Good (value_span e)
      value_good (Base b) good = base_value_good b good
      value_good (Filter name whole receiver args) good = good.1

      pub base_value_good : (b : BaseExpr) → BaseGood b → Good (base_value_span b)
      base_value_good (Variable v) good = var_good v good
      base_value_good (Literal span v) good = good
      base_value_good (ListOf span items) good = good.0
      base_value_good (MapOf span pairs) good = good.0
      base_value_good (Paren span e) good = value_good e good.1
      base_value_good (Call name whole args) good = good.1

    base_good : (b : BaseExpr) → BaseGood b → Good (base_span b)
    base_good (Variable v) good = var_good v good
    base_good (Literal span v) good = good
    base_good (ListOf span items) good = good.0
    base_good (MapOf span pairs) good = good.0
    base_good (Paren span e) good = good.0
    base_good (Call name whole args) good = good.1

    pub expr_good : (e : Expr) → ExprGood e → Good (expr_span e)
    expr_good (Base b) good = base_good b good
    expr_good (Filter name whole receiver args) good = good.1

  -- where every span is
  module _ (every : (span : Span) → Good span) where
    every_member : (ms : List Member) → MembersGood ms
    every_member [] = tt
    every_member (m ∷ ms) = (every m.span, every_member ms)

    mutual
      every_expr : (e : Expr) → ExprGood e
      every_expr (Base b) = every_base b
      every_expr (Filter name whole receiver args) = (every name, every whole, every_expr receiver, every_args args)

      every_base : (b : BaseExpr) → BaseGood b
      every_base (Variable v) = (every v.first.span, every_member v.rest)
      every_base (Literal span v) = every span
      every_base (ListOf span items) = (every span, every_args items)
      every_base (MapOf span pairs) = (every span, every_pairs pairs)
      every_base (Paren span e) = (every span, every_expr e)
      every_base (Call name whole args) = (every name, every whole, every_args args)

      every_args : (args : Args) → ArgsGood args
      every_args no_args = tt
      every_args (arg b rest) = (every_base b, every_args rest)

      every_pairs : (pairs : Pairs) → PairsGood pairs
      every_pairs no_pairs = tt
      every_pairs (pair k b rest) = (every_base b, every_pairs rest)

    every_vars : (vars : LoopVars) → VarsGood vars
    every_vars (Item name) = every name
    every_vars (KeyValue k w both) = every both

    mutual
      every_stmt : (stmt : Stmt) → StmtGood stmt
      every_stmt (Raw span) = tt
      every_stmt (Inline e) = every_expr e
      every_stmt (Include other) = every other.span
      every_stmt (IncludeWith other e) = (every other.span, every_expr e)
      every_stmt (If negated e body) = (every_expr e, every_scope body)
      every_stmt (IfElse negated e body otherwise) = (every_expr e, every_scope body, every_scope otherwise)
      every_stmt (For vars e body) = (every_vars vars, every_expr e, every_scope body)
      every_stmt (With alias e body) = (every_expr e, every_scope body)

      pub every_scope : (scope : Scope) → ScopeGood scope
      every_scope done = tt
      every_scope (stmt then rest) = (every_stmt stmt, every_scope rest)
