-- That every expression, statement and scope has more bytes than instructions, whatever tree it stands in. The methods
-- say in `ahead` what they need of this for the parts of the tree that they compile.
use Rattle.std.proofs.Common.{◌≡◌, ℕ, ◌+◌, ◌<◌, ◌≤◌, Bool, true, false, [], ◌∷◌, length, refl, ap, ◌∙◌, arith, length-append}
use Rattle.meaning.specs.Bytes.{little_endian}
use Rattle.meaning.specs.Tree.{LoopVars, Item, KeyValue, Expr, BaseExpr, Args, Pairs, Base, Filter, Variable, Literal, ListOf, MapOf, Paren, Call, no_args, arg, no_pairs, pair, Stmt, Scope, Raw, Inline, Include as IncludeStmt, IncludeWith as IncludeWithStmt, If, IfElse, For, With, done, ◌then◌}
use Rattle.packing.specs.Packing.{pack_span, pack_string, pack_text, pack_expr, pack_base, pack_args, pack_pairs, pack_stmt, pack}
use Rattle.program.specs.Program.{compile_expr, compile_base, compile_args, compile_items, compile_pairs, emit_expr, compile_stmt, compile_scope, stmt_count, count, expr_count}
use Rattle.program.specs.Program as program
use Rattle.compiler.specs.Compiled.{applies}
use Rattle.compiler.proofs.Emits.{applied_expr, plain_expr}

mutual
  unfolding compile_expr pack_expr pack_span pack_string pack_text little_endian

  pub expr_fewer : (e : Expr) → length (compile_expr e) < length (pack_expr e)
  expr_fewer (Base b) = base_fewer b
  expr_fewer (Filter name whole receiver args) =
      let r = expr_fewer receiver in
      let a = args_fewer args in
      simp length-append (omega arith)

  pub base_fewer : (b : BaseExpr) → length (compile_base b) < length (pack_base b)
  base_fewer (Variable v) = omega arith
  base_fewer (Literal s v) = omega arith
  base_fewer (ListOf s args) = let a = items_fewer args in simp length-append (omega arith)
  base_fewer (MapOf s pairs) = let p = pairs_fewer pairs in simp length-append (omega arith)
  base_fewer (Paren s e) = let r = expr_fewer e in simp length-append (omega arith)
  base_fewer (Call name whole args) = let a = args_fewer args in simp length-append (omega arith)

  pub args_fewer : (a : Args) → length (compile_args a) ≤ length (pack_args a)
  args_fewer no_args = omega arith
  args_fewer (arg b bs) = let r = base_fewer b in let a = args_fewer bs in simp length-append (omega arith)

  pub items_fewer : (a : Args) → length (compile_items a) ≤ length (pack_args a)
  items_fewer no_args = omega arith
  items_fewer (arg b bs) = let r = base_fewer b in let a = items_fewer bs in simp length-append (omega arith)

  pub pairs_fewer : (p : Pairs) → length (compile_pairs p) ≤ length (pack_pairs p)
  pairs_fewer no_pairs = omega arith
  pairs_fewer (pair k b ps) = let r = base_fewer b in let a = pairs_fewer ps in simp length-append (omega arith)

pub emit_fewer : (e : Expr) → length (emit_expr e) ≤ length (pack_expr e)
emit_fewer e = by (applies e) refl
  where
    less : length (compile_expr e) < length (pack_expr e)
    less = expr_fewer e

    by : (b : Bool) → applies e ≡ b → length (emit_expr e) ≤ length (pack_expr e)
    by false t =
        let size : length (emit_expr e) ≡ length (compile_expr e) + 1 = ap length (plain_expr e t) ∙ length-append (compile_expr e) (program.Emit ∷ []) in
        let fewer = less in
        omega arith
    by true t =
        let a = applied_expr e t in
        let size : length (emit_expr e) ≡ length a.front + 1 = ap length a.emits ∙ length-append a.front (program.EmitWith a.name a.count a.whole ∷ []) in
        let size' : length (compile_expr e) ≡ length a.front + 1 = ap length a.applied ∙ length-append a.front (program.Apply a.name a.count a.whole ∷ []) in
        let fewer = less in
        omega arith

mutual
  unfolding compile_stmt pack_stmt pack_span pack_string pack_text little_endian

  pub stmt_fewer : (s : Stmt) (at : ℕ) → length (compile_stmt s at) < length (pack_stmt s)
  stmt_fewer (Raw s) at = omega arith
  stmt_fewer (Inline e) at = let a = emit_fewer e in omega arith
  stmt_fewer (IncludeStmt name) at = omega arith
  stmt_fewer (IncludeWithStmt name e) at = let a = expr_fewer e in simp length-append (omega arith)
  stmt_fewer (If not e c) at = let a = expr_fewer e in let b = scope_fewer c (at + expr_count e + 1) in simp length-append (omega arith)
  stmt_fewer (IfElse not e c d) at =
      let a = expr_fewer e in
      let b = scope_fewer c (at + expr_count e + 1) in
      let f = scope_fewer d (at + expr_count e + 1 + count c + 1) in
      simp length-append (omega arith)
  stmt_fewer (For (Item s) e c) at = let a = expr_fewer e in let b = scope_fewer c (at + expr_count e + 1 + 1) in simp length-append (omega arith)
  stmt_fewer (For (KeyValue k v both) e c) at = let a = expr_fewer e in let b = scope_fewer c (at + expr_count e + 1 + 1) in simp length-append (omega arith)
  stmt_fewer (With name e c) at = let a = expr_fewer e in let b = scope_fewer c (at + expr_count e + 1) in simp length-append (omega arith)

  pub scope_fewer : (c : Scope) (at : ℕ) → length (compile_scope c at) < length (pack c)
  scope_fewer done at = omega arith
  scope_fewer (s then c) at = let a = stmt_fewer s at in let b = scope_fewer c (at + stmt_count s) in simp length-append (omega arith)
