-- That the reader, where a part of a tree stands packed, reads its head and leaves what stands behind it.
use Rattle.std.proofs.Common.{◌≡◌, ℕ, suc, ◌<◌, ◌≤◌, List, ◌∷◌, ◌++◌, length, refl, ◌∙◌, append_assoc, arith, le-leb}
use Rattle.meaning.specs.Value.{Value}
use Rattle.meaning.specs.declared.tree.Span.{Span}
use Rattle.meaning.specs.Tree.{String, Expr, BaseExpr, Stmt, Scope, Base, Filter, Variable, Literal, ListOf, MapOf, Paren, Call, no_pairs, pair, count_args, count_pairs, members, Item, KeyValue, Raw, Inline, Include, IncludeWith, If, IfElse, For, With, done, ◌then◌}
use Rattle.packing.specs.Packing.{pack_span, pack_string, pack_value, pack_expr, pack_base, pack_pairs, pack, pack_stmt}
use Rattle.packing.specs.Limits.{Inside, Simple, ValueFits, StringFits, BaseFits, ExprFits, StmtFits, ScopeFits, most_bytes}
use Rattle.meaning.specs.Step.{return, continue}
use Rattle.packing.specs.Reader.{read, byte, coded, command}
use Rattle.packing.specs.Unpacking.{span, string_of}
use Rattle.packing.proofs.Values.{plain_command_reads}
use Rattle.packing.proofs.Readers.{byte_reads, flag_reads}
use Rattle.packing.proofs.Fields.{span_reads, string_reads, inside_short, variable_reads}
use Rattle.packing.proofs.Exprs.{ranged_members, short_members}
use Rattle.reader.specs.AfterByte.{plain_head}
use Rattle.reader.specs.Fields.{variable_members}
use Rattle.reader.specs.Heads.{BaseOf, StmtOf, base_head, expr_head, scope_head, base_fields, expr_fields, stmt_fields, scope_fields, map_fields, callee}
use Rattle.checker.specs.TreeHeads.{base_head_of, base_behind, expr_head_of, expr_behind, stmt_head_of, stmt_behind, scope_head_of, scope_behind}

module _ (source : List ℕ) (short : length source ≤ most_bytes) (at : ℕ) where
  placed_span : (s : Span) (u : List ℕ) → Inside source s → span at (pack_span s ++ u) ≡ read s u
  placed_span s u inside = span_reads at s u (inside_short source short s inside)

  pub placed_string : (k : String) (u : List ℕ) → StringFits source k → string_of at (pack_string k ++ u) ≡ read k u
  placed_string k u fits = string_reads at k u (inside_short source short k.span fits.placed) fits.fits

  callee_reads : (most n : ℕ) (name whole : Span) (u : List ℕ) → n ≤ most → most < 256 → Inside source name → Inside source whole → callee most at (pack_span name ++ (pack_span whole ++ (n ∷ u))) ≡ read (record { name = name; whole = whole; count = n }) u
  unfolding callee
  callee_reads most n name whole u few small inside inside' =
      let low : n < 256 = omega arith in
      rw (placed_span name _ inside, placed_span whole _ inside', byte_reads at n u low, le-leb n most few)

  pub base_head_reads : (b : BaseExpr) (u : List ℕ) → BaseFits source b → base_head at (pack_base b ++ u) ≡ read (base_head_of b) (base_behind b ++ u)
  unfolding base_head base_fields command byte coded pack_base variable_members map_fields pack_pairs
  base_head_reads (Variable v) u fits =
      rw (variable_reads at v u (short_members source short (members v) fits.1) (fits.0, ranged_members source (members v) fits.1))
  base_head_reads (Literal s v) u fits = rw (append_assoc, placed_span s _ fits.0)
  base_head_reads (ListOf s args) u fits = rw (append_assoc, placed_span s _ fits.0, byte_reads at (count_args args) _ fits.1)
  base_head_reads (MapOf s no_pairs) u fits = rw (append_assoc, placed_span s _ fits.0)
  base_head_reads (MapOf s (pair k b ps)) u fits =
      rw (append_assoc, placed_span s _ fits.0, byte_reads at (suc (count_pairs ps)) _ fits.1, append_assoc, placed_string k _ fits.2.0)
  base_head_reads (Paren s e) u fits = rw (append_assoc, placed_span s _ fits.0)
  base_head_reads (Call name whole args) u fits =
      rw (append_assoc, append_assoc, callee_reads 8 (count_args args) name whole _ fits.2 (omega arith) fits.0 fits.1)

  expr_is_base : (b : BaseExpr) (u : List ℕ) → expr_head at (pack_base b ++ u) ≡ continue (base_head at (pack_base b ++ u)) (λ h. return (BaseOf h))
  unfolding expr_head expr_fields base_head command byte coded pack_base
  expr_is_base (Variable v) u = refl
  expr_is_base (Literal s v) u = refl
  expr_is_base (ListOf s args) u = refl
  expr_is_base (MapOf s pairs) u = refl
  expr_is_base (Paren s e) u = refl
  expr_is_base (Call name whole args) u = refl

  pub expr_head_reads : (e : Expr) (u : List ℕ) → ExprFits source e → expr_head at (pack_expr e ++ u) ≡ read (expr_head_of e) (expr_behind e ++ u)
  unfolding expr_head expr_fields command byte coded pack_expr
  expr_head_reads (Base b) u fits = expr_is_base b u ∙ rw (base_head_reads b u fits)
  expr_head_reads (Filter name whole receiver args) u fits =
      rw (append_assoc, append_assoc, callee_reads 7 (count_args args) name whole _ fits.2 (omega arith) fits.0 fits.1)

  pub stmt_head_reads : (s : Stmt) (u : List ℕ) → StmtFits source s → scope_head at (pack_stmt s ++ u) ≡ read (StmtOf (stmt_head_of s)) (stmt_behind s ++ u)
  unfolding scope_head scope_fields stmt_fields command byte coded pack_stmt
  stmt_head_reads (Raw s) u fits = rw (placed_span s u fits)
  stmt_head_reads (Inline e) u fits = refl
  stmt_head_reads (Include name) u fits = rw (placed_string name u fits)
  stmt_head_reads (IncludeWith name e) u fits = rw (append_assoc, placed_string name _ fits.0)
  stmt_head_reads (If negated e c) u fits = rw (flag_reads at negated _)
  stmt_head_reads (IfElse negated e c d) u fits = rw (flag_reads at negated _)
  stmt_head_reads (For (Item s) e c) u fits = rw (append_assoc, placed_span s _ fits.0)
  stmt_head_reads (For (KeyValue k v both) e c) u fits =
      rw (append_assoc, placed_span k _ fits.0.0, append_assoc, placed_span v _ fits.0.1, append_assoc, placed_span both _ fits.0.2)
  stmt_head_reads (With name e c) u fits = rw (append_assoc, placed_span name _ fits.0)

  pub scope_head_reads : (c : Scope) (u : List ℕ) → ScopeFits source c → scope_head at (pack c ++ u) ≡ read (scope_head_of c) (scope_behind c ++ u)
  unfolding pack_stmt scope_head scope_fields command byte coded
  scope_head_reads done u fits = refl
  scope_head_reads (s then c) u fits = rw (append_assoc (pack_stmt s) (pack c) u, append_assoc (stmt_behind s) (pack c) u) (stmt_head_reads s (pack c ++ u) fits.0)

-- a literal's value
pub plain_head_reads : (at : ℕ) (v : Value) (u : List ℕ) → Simple v → ValueFits v → plain_head at (pack_value v ++ u) ≡ read v u
unfolding plain_head
plain_head_reads at v u simple fits = plain_command_reads at v u simple fits
