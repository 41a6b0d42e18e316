-- The heads of a tree's parts, and the bytes of what stands behind them.
use Rattle.std.specs.Prelude.{ℕ, List, [], ◌++◌}
use Rattle.meaning.specs.Tree.{Expr, BaseExpr, Stmt, Scope, Base, Filter, Variable, Literal, ListOf, MapOf, Paren, Call, no_pairs, pair, count_args, count_pairs, members, Item, KeyValue, Raw, Inline, Include, IncludeWith, If, IfElse, For, With, done, ◌then◌}
use Rattle.packing.specs.Packing.{pack_value, pack_expr, pack_base, pack_args, pack_pairs, pack}
use Rattle.reader.specs.Heads.{BaseHead, VariableHead, LiteralHead, ListHead, EmptyMapHead, MapHead, ParenHead, CallHead, ExprHead, BaseOf, FilterHead, StmtHead, RawHead, InlineHead, IncludeHead, IncludeWithHead, IfHead, IfElseHead, ForItemHead, ForPairHead, WithHead, ScopeHead, StmtOf, EndHead}

-- EXPRESSIONS

abbrev pub base_head_of : BaseExpr → BaseHead
base_head_of (Variable v) = VariableHead (members v)
base_head_of (Literal s v) = LiteralHead s
base_head_of (ListOf s args) = ListHead s (count_args args)
base_head_of (MapOf s no_pairs) = EmptyMapHead s
base_head_of (MapOf s (pair k b ps)) = MapHead s k (count_pairs ps)
base_head_of (Paren s e) = ParenHead s
base_head_of (Call name whole args) = CallHead name whole (count_args args)

abbrev pub base_behind : BaseExpr → List ℕ
base_behind (Variable v) = []
base_behind (Literal s v) = pack_value v
base_behind (ListOf s args) = pack_args args
base_behind (MapOf s no_pairs) = []
base_behind (MapOf s (pair k b ps)) = pack_base b ++ pack_pairs ps
base_behind (Paren s e) = pack_expr e
base_behind (Call name whole args) = pack_args args

abbrev pub expr_head_of : Expr → ExprHead
expr_head_of (Base b) = BaseOf (base_head_of b)
expr_head_of (Filter name whole receiver args) = FilterHead name whole (count_args args)

abbrev pub expr_behind : Expr → List ℕ
expr_behind (Base b) = base_behind b
expr_behind (Filter name whole receiver args) = pack_expr receiver ++ pack_args args

-- STATEMENTS

abbrev pub stmt_head_of : Stmt → StmtHead
stmt_head_of (Raw s) = RawHead s
stmt_head_of (Inline e) = InlineHead
stmt_head_of (Include name) = IncludeHead name
stmt_head_of (IncludeWith name e) = IncludeWithHead name
stmt_head_of (If negated e c) = IfHead negated
stmt_head_of (IfElse negated e c d) = IfElseHead negated
stmt_head_of (For (Item s) e c) = ForItemHead s
stmt_head_of (For (KeyValue k v both) e c) = ForPairHead k v both
stmt_head_of (With name e c) = WithHead name

abbrev pub stmt_behind : Stmt → List ℕ
stmt_behind (Raw s) = []
stmt_behind (Inline e) = pack_expr e
stmt_behind (Include name) = []
stmt_behind (IncludeWith name e) = pack_expr e
stmt_behind (If negated e c) = pack_expr e ++ pack c
stmt_behind (IfElse negated e c d) = pack_expr e ++ (pack c ++ pack d)
stmt_behind (For (Item s) e c) = pack_expr e ++ pack c
stmt_behind (For (KeyValue k v both) e c) = pack_expr e ++ pack c
stmt_behind (With name e c) = pack_expr e ++ pack c

abbrev pub scope_head_of : Scope → ScopeHead
scope_head_of done = EndHead
scope_head_of (s then c) = StmtOf (stmt_head_of s)

abbrev pub scope_behind : Scope → List ℕ
scope_behind done = []
scope_behind (s then c) = stmt_behind s ++ pack c
