-- What a part of a tree is by its head, and where the parts within it stand.
use Rattle.std.proofs.Common.{◌≡◌, ℕ, ◌+◌, List, ◌++◌, length, refl, subst}
use Rattle.meaning.specs.Value.{Value}
use Rattle.meaning.specs.Tree.{Var, Expr, BaseExpr, Args, Pairs, Stmt, Scope, Base, Filter, Variable, Literal, ListOf, MapOf, Paren, Call, no_pairs, pair, count_args, count_pairs, members, Item, KeyValue, Raw, Inline, Include, IncludeWith, If, IfElse, For, With, done, ◌then◌}
use Rattle.packing.specs.Limits.{Inside, Simple, ValueFits, StringFits, MembersFit, ExprFits, BaseFits, ArgsFit, PairsFit, StmtFits, ScopeFits}
use Rattle.packing.specs.Packing.{pack_value, pack_expr, pack_base, pack_args, pack_pairs, pack}
use Rattle.reader.specs.Heads.{BaseHead, VariableHead, LiteralHead, ListHead, EmptyMapHead, MapHead, ParenHead, CallHead, ExprHead, BaseOf, FilterHead, StmtHead, RawHead, InlineHead, IncludeHead, IncludeWithHead, IfHead, IfElseHead, ForItemHead, ForPairHead, WithHead, ScopeHead, StmtOf, EndHead}
use Rattle.checker.specs.There.{Stands}
use Rattle.checker.specs.TreeHeads.{base_head_of, base_behind, expr_head_of, expr_behind, stmt_head_of, stmt_behind, scope_head_of, scope_behind}
use Rattle.checker.proofs.There.{first_part, second_part}

module _ (source tree : List ℕ) (pos : ℕ) where
  -- two parts, one behind the other
  abbrev pub BothStand : (a b : List ℕ) → Type 0
  BothStand a b = Stands tree pos a × Stands tree (pos + length a) b

  both_stand : (a b : List ℕ) → Stands tree pos (a ++ b) → BothStand a b
  both_stand a b s = (first_part tree pos a b s, second_part tree pos a b s)

  -- EXPRESSIONS

  abbrev pub BaseParts : BaseExpr → BaseHead → Type 0
  BaseParts b (VariableHead ms) = (v : Var) × (b ≡ Variable v) × (members v ≡ ms) × MembersFit source ms
  BaseParts b (LiteralHead s) =
      (v : Value) × (b ≡ Literal s v) × Inside source s × Simple v × ValueFits v × Stands tree pos (pack_value v)
  BaseParts b (ListHead s n) =
      (args : Args) × (b ≡ ListOf s args) × Inside source s × (count_args args ≡ n) × ArgsFit source args × Stands tree pos (pack_args args)
  BaseParts b (EmptyMapHead s) = (b ≡ MapOf s no_pairs) × Inside source s
  BaseParts b (MapHead s k n) =
      (first : BaseExpr) × (ps : Pairs) × (b ≡ MapOf s (pair k first ps)) × Inside source s × StringFits source k
      × (count_pairs ps ≡ n) × BaseFits source first × PairsFit source ps × BothStand (pack_base first) (pack_pairs ps)
  BaseParts b (ParenHead s) = (e : Expr) × (b ≡ Paren s e) × Inside source s × ExprFits source e × Stands tree pos (pack_expr e)
  BaseParts b (CallHead name whole n) =
      (args : Args) × (b ≡ Call name whole args) × Inside source name × Inside source whole
      × (count_args args ≡ n) × ArgsFit source args × Stands tree pos (pack_args args)

  base_by_head : (b : BaseExpr) → BaseFits source b → Stands tree pos (base_behind b) → BaseParts b (base_head_of b)
  base_by_head (Variable v) f s = (v, refl, refl, f.1)
  base_by_head (Literal p v) f s = (v, refl, f.0, f.1, f.2, s)
  base_by_head (ListOf p args) f s = (args, refl, f.0, refl, f.2, s)
  base_by_head (MapOf p no_pairs) f s = (refl, f.0)
  base_by_head (MapOf p (pair k b ps)) f s =
      (b, ps, refl, f.0, f.2.0, refl, f.2.1, f.2.2, both_stand (pack_base b) (pack_pairs ps) s)
  base_by_head (Paren p e) f s = (e, refl, f.0, f.1, s)
  base_by_head (Call name whole args) f s = (args, refl, f.0, f.1, refl, f.3, s)

  pub base_parts : (b : BaseExpr) (h : BaseHead) → base_head_of b ≡ h → BaseFits source b → Stands tree pos (base_behind b) → BaseParts b h
  base_parts b h e f s = subst (BaseParts b) e (base_by_head b f s)

  abbrev pub ExprParts : Expr → ExprHead → Type 0
  ExprParts e (BaseOf h) = (b : BaseExpr) × (e ≡ Base b) × (base_head_of b ≡ h) × BaseFits source b × Stands tree pos (base_behind b)
  ExprParts e (FilterHead name whole n) =
      (receiver : Expr) × (args : Args) × (e ≡ Filter name whole receiver args) × Inside source name × Inside source whole
      × (count_args args ≡ n) × ExprFits source receiver × ArgsFit source args × BothStand (pack_expr receiver) (pack_args args)

  expr_by_head : (e : Expr) → ExprFits source e → Stands tree pos (expr_behind e) → ExprParts e (expr_head_of e)
  expr_by_head (Base b) f s = (b, refl, refl, f, s)
  expr_by_head (Filter name whole receiver args) f s =
      (receiver, args, refl, f.0, f.1, refl, f.3, f.4, both_stand (pack_expr receiver) (pack_args args) s)

  pub expr_parts : (x : Expr) (h : ExprHead) → expr_head_of x ≡ h → ExprFits source x → Stands tree pos (expr_behind x) → ExprParts x h
  expr_parts x h e f s = subst (ExprParts x) e (expr_by_head x f s)

  -- STATEMENTS

  -- an expression and the statements of a block
  abbrev pub Nested : Expr → Scope → Type 0
  Nested e c = ExprFits source e × ScopeFits source c × Stands tree pos (pack_expr e ++ pack c)

  abbrev pub StmtParts : Stmt → StmtHead → Type 0
  StmtParts s (RawHead p) = (s ≡ Raw p) × Inside source p
  StmtParts s InlineHead = (e : Expr) × (s ≡ Inline e) × ExprFits source e × Stands tree pos (pack_expr e)
  StmtParts s (IncludeHead name) = (s ≡ Include name) × StringFits source name
  StmtParts s (IncludeWithHead name) =
      (e : Expr) × (s ≡ IncludeWith name e) × StringFits source name × ExprFits source e × Stands tree pos (pack_expr e)
  StmtParts s (IfHead negated) = (e : Expr) × (c : Scope) × (s ≡ If negated e c) × Nested e c
  StmtParts s (IfElseHead negated) =
      (e : Expr) × (c : Scope) × (d : Scope) × (s ≡ IfElse negated e c d)
      × ExprFits source e × ScopeFits source c × ScopeFits source d × Stands tree pos (pack_expr e ++ (pack c ++ pack d))
  StmtParts s (ForItemHead p) = (e : Expr) × (c : Scope) × (s ≡ For (Item p) e c) × Inside source p × Nested e c
  StmtParts s (ForPairHead k v both) =
      (e : Expr) × (c : Scope) × (s ≡ For (KeyValue k v both) e c) × Inside source k × Inside source v × Inside source both × Nested e c
  StmtParts s (WithHead p) = (e : Expr) × (c : Scope) × (s ≡ With p e c) × Inside source p × Nested e c

  stmt_by_head : (s : Stmt) → StmtFits source s → Stands tree pos (stmt_behind s) → StmtParts s (stmt_head_of s)
  stmt_by_head (Raw p) f s = (refl, f)
  stmt_by_head (Inline e) f s = (e, refl, f.fits, s)
  stmt_by_head (Include name) f s = (refl, f)
  stmt_by_head (IncludeWith name e) f s = (e, refl, f.0, f.1.fits, s)
  stmt_by_head (If negated e c) f s = (e, c, refl, (f.0.fits, f.1, s))
  stmt_by_head (IfElse negated e c d) f s = (e, c, d, refl, f.0.fits, f.1, f.2, s)
  stmt_by_head (For (Item p) e c) f s = (e, c, refl, f.0, (f.1.fits, f.2, s))
  stmt_by_head (For (KeyValue k v both) e c) f s = (e, c, refl, f.0.0, f.0.1, f.0.2, (f.1.fits, f.2, s))
  stmt_by_head (With p e c) f s = (e, c, refl, f.0, (f.1.fits, f.2, s))

  pub stmt_parts : (x : Stmt) (h : StmtHead) → stmt_head_of x ≡ h → StmtFits source x → Stands tree pos (stmt_behind x) → StmtParts x h
  stmt_parts x h e f s = subst (StmtParts x) e (stmt_by_head x f s)

  abbrev pub ScopeParts : Scope → ScopeHead → Type 0
  ScopeParts c EndHead = c ≡ done
  ScopeParts c (StmtOf h) =
      (s : Stmt) × (rest : Scope) × (c ≡ s then rest) × (stmt_head_of s ≡ h) × StmtFits source s × ScopeFits source rest × BothStand (stmt_behind s) (pack rest)

  scope_by_head : (c : Scope) → ScopeFits source c → Stands tree pos (scope_behind c) → ScopeParts c (scope_head_of c)
  scope_by_head done f s = refl
  scope_by_head (x then c) f s = (x, c, refl, refl, f.0, f.1, both_stand (stmt_behind x) (pack c) s)

  pub scope_parts : (c : Scope) (h : ScopeHead) → scope_head_of c ≡ h → ScopeFits source c → Stands tree pos (scope_behind c) → ScopeParts c h
  scope_parts c h e f s = subst (ScopeParts c) e (scope_by_head c f s)
