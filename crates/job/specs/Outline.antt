-- The outline of a template: a line for each statement and expression, with the source under its spans.
use Rattle.std.specs.Prelude.{ℕ, ◌+◌, Bool, cond, List, [], ◌++◌, codes}
use Rattle.meaning.specs.Tree.{Expr, BaseExpr, Args, Pairs, Stmt, Scope, Base, Filter, Variable, Literal, ListOf, MapOf, Paren, Call, no_args, arg, no_pairs, pair, members, Item, KeyValue, Raw, Inline, Include, IncludeWith, If, IfElse, For, With, done, ◌then◌}
use Rattle.job.specs.Lines.{label_line, span_line, spans_line, string_line, members_line, value_line}

abbrev pub if_label : (negated : Bool) → List ℕ
if_label negated = cond negated (codes "if not") (codes "if")

-- a block: its expression, a label, its statements
abbrev pub nested : (depth : ℕ) (expr label scope : List ℕ) → List ℕ
nested depth expr label scope = expr ++ label_line depth label ++ scope

module _ (source : List ℕ) where
  unfoldable mutual
    pub outline_expr : (depth : ℕ) → Expr → List ℕ
    outline_expr depth (Base b) = outline_base depth b
    outline_expr depth (Filter name whole receiver args) =
        spans_line source depth (codes "filter") whole name ++ outline_expr (depth + 1) receiver ++ outline_args (depth + 1) args

    pub outline_base : (depth : ℕ) → BaseExpr → List ℕ
    outline_base depth (Variable v) = members_line source depth (members v)
    outline_base depth (Literal s v) = span_line source depth (codes "literal") s ++ value_line (depth + 1) v
    outline_base depth (ListOf s args) = span_line source depth (codes "list") s ++ outline_args (depth + 1) args
    outline_base depth (MapOf s pairs) = span_line source depth (codes "map") s ++ outline_pairs (depth + 1) pairs
    outline_base depth (Paren s e) = span_line source depth (codes "paren") s ++ outline_expr (depth + 1) e
    outline_base depth (Call name whole args) =
        spans_line source depth (codes "call") whole name ++ outline_args (depth + 1) args

    pub outline_args : (depth : ℕ) → Args → List ℕ
    outline_args depth no_args = []
    outline_args depth (arg b bs) = outline_base depth b ++ outline_args depth bs

    pub outline_pairs : (depth : ℕ) → Pairs → List ℕ
    outline_pairs depth no_pairs = []
    outline_pairs depth (pair k b ps) =
        string_line source depth (codes "key") k ++ outline_base (depth + 1) b ++ outline_pairs depth ps

  unfoldable mutual
    pub outline_stmt : (depth : ℕ) → Stmt → List ℕ
    outline_stmt depth (Raw s) = span_line source depth (codes "raw") s
    outline_stmt depth (Inline e) = label_line depth (codes "inline") ++ outline_expr (depth + 1) e
    outline_stmt depth (Include name) = string_line source depth (codes "include") name
    outline_stmt depth (IncludeWith name e) =
        string_line source depth (codes "include with") name ++ outline_expr (depth + 1) e
    outline_stmt depth (If negated e c) =
        label_line depth (if_label negated)
        ++ nested depth (outline_expr (depth + 1) e) (codes "then") (outline_scope (depth + 1) c)
    outline_stmt depth (IfElse negated e c d) =
        label_line depth (if_label negated)
        ++ nested depth (outline_expr (depth + 1) e) (codes "then") (outline_scope (depth + 1) c)
        ++ label_line depth (codes "else") ++ outline_scope (depth + 1) d
    outline_stmt depth (For (Item s) e c) =
        span_line source depth (codes "for") s
        ++ nested depth (outline_expr (depth + 1) e) (codes "do") (outline_scope (depth + 1) c)
    outline_stmt depth (For (KeyValue k v both) e c) =
        spans_line source depth (codes "for") k v
        ++ nested depth (outline_expr (depth + 1) e) (codes "do") (outline_scope (depth + 1) c)
    outline_stmt depth (With name e c) =
        span_line source depth (codes "with") name
        ++ nested depth (outline_expr (depth + 1) e) (codes "do") (outline_scope (depth + 1) c)

    pub outline_scope : (depth : ℕ) → Scope → List ℕ
    outline_scope depth done = []
    outline_scope depth (s then c) = outline_stmt depth s ++ outline_scope depth c
