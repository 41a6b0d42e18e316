-- What a record means whose operands stand where the compiler says.
use Rattle.std.proofs.Common.{◌≡◌, ℕ, suc, ◌+◌, ◌≤◌, List, ◌∷◌, ◌++◌, length, sym, refl, ap, ◌∙◌, subst, append_assoc, arith}
use mathlib.Core.Option.{some}
use Rattle.meaning.specs.Bytes.{little_endian}
use Rattle.meaning.specs.Value.{Value}
use Rattle.meaning.specs.declared.tree.Span.{Span}
use Rattle.meaning.specs.Tree.{String, Var, Expr, BaseExpr, Args, Pairs, Filter, Variable, Literal, ListOf, MapOf, Call, pair, count_args, members}
use Rattle.packing.specs.Limits.{most_bytes, Inside, Simple, ValueFits, StringFits, BaseFits, ExprFits}
use Rattle.packing.specs.Packing.{pack_span, pack_string, pack_value, pack_expr, pack_base, pack_members}
use Rattle.packing.specs.Unpacking.{span, string_of, variable}
use Rattle.packing.specs.Reader.{read}
use Rattle.packing.proofs.Fields.{span_reads, inside_short, variable_reads}
use Rattle.packing.proofs.Exprs.{ranged_members, short_members}
use Rattle.program.specs.Program as program
use Rattle.checker.specs.There.{Stands}
use Rattle.checker.proofs.There.{first_part, second_part}
use Rattle.checker.proofs.TreeHeads.{placed_string, plain_head_reads}
use Rattle.compiler.specs.declared.instr.Op.{Op}
use Rattle.compiler.specs.Records.{instr_of, operand, callee_operands, literal_operands}
use Rattle.compiler.specs.Making.{plain_record}
use Rattle.compiler.proofs.Means.{behind_byte, operand_means}

pub span_size : (s : Span) → length (pack_span s) ≡ 4
unfolding pack_span little_endian
span_size s = refl

module _ (source tree : List ℕ) (short : length source ≤ most_bytes) where
  placed_span : (s : Span) (u : List ℕ) → Inside source s → span 0 (pack_span s ++ u) ≡ read s u
  placed_span s u inside = span_reads 0 s u (inside_short source short s inside)

  -- a span, with something behind it
  pub span_means : (at : ℕ) (make : Span → program.Instr) (s : Span) (more : List ℕ) → Inside source s → Stands tree at (pack_span s ++ more) → operand tree span at make ≡ some (make s)
  span_means at make s more inside stands =
      operand_means tree span at make s (pack_span s) (λ u. u) (first_part tree at (pack_span s) more stands) (λ u. placed_span s u inside)

  pub string_means : (at : ℕ) (make : String → program.Instr) (k : String) → StringFits source k → Stands tree at (pack_string k) → operand tree string_of at make ≡ some (make k)
  string_means at make k fits stands =
      operand_means tree string_of at make k (pack_string k) (λ u. u) stands (λ u. placed_string source short 0 k u fits)

  pub callee_means : (at : ℕ) (make : Span → Span → program.Instr) (name whole : Span) (more : List ℕ) → Inside source name → Inside source whole → Stands tree at (pack_span name ++ (pack_span whole ++ more)) → callee_operands tree at make ≡ some (make name whole)
  callee_means at make name whole more inside inside' stands =
      rw (stands.reads, append_assoc (pack_span name) (pack_span whole ++ more), placed_span name _ inside, append_assoc (pack_span whole) more, placed_span whole _ inside')

  pub literal_means : (at : ℕ) (s : Span) (v : Value) → Inside source s → Simple v → ValueFits v → Stands tree at (pack_span s ++ pack_value v) → literal_operands tree at ≡ some (program.ExprStartLiteral s v)
  literal_means at s v inside simple fits stands =
      rw (stands.reads, append_assoc (pack_span s) (pack_value v), placed_span s _ inside, plain_head_reads 0 v _ simple fits)

  -- EXPRESSIONS

  pub variable_there : (start : ℕ) (v : Var) → BaseFits source (Variable v) → Stands tree start (pack_base (Variable v)) → instr_of tree (plain_record Op.ExprStartVar (start + 1)) ≡ some (program.ExprStartVar v)
  unfolding pack_base
  variable_there start v fits stands =
      operand_means tree variable (start + 1) program.ExprStartVar v (length (members v) ∷ pack_members (members v)) (λ u. u) (behind_byte tree start _ _ stands)
      (λ u. variable_reads 0 v u (short_members source short (members v) fits.1) (fits.0, ranged_members source (members v) fits.1))

  pub literal_there : (start : ℕ) (s : Span) (v : Value) → BaseFits source (Literal s v) → Stands tree start (pack_base (Literal s v)) → instr_of tree (plain_record Op.ExprStartLiteral (start + 1)) ≡ some (program.ExprStartLiteral s v)
  unfolding pack_base
  literal_there start s v fits stands = literal_means (start + 1) s v fits.0 fits.1 fits.2 (behind_byte tree start _ _ stands)

  pub list_there : (start : ℕ) (s : Span) (args : Args) → BaseFits source (ListOf s args) → Stands tree start (pack_base (ListOf s args)) → instr_of tree (plain_record Op.ExprStartList (start + 1)) ≡ some (program.ExprStartList s)
  unfolding pack_base
  list_there start s args fits stands = span_means (start + 1) program.ExprStartList s _ fits.0 (behind_byte tree start _ _ stands)

  pub map_there : (start : ℕ) (s : Span) (pairs : Pairs) → BaseFits source (MapOf s pairs) → Stands tree start (pack_base (MapOf s pairs)) → instr_of tree (plain_record Op.ExprStartMap (start + 1)) ≡ some (program.ExprStartMap s)
  unfolding pack_base
  map_there start s pairs fits stands = span_means (start + 1) program.ExprStartMap s _ fits.0 (behind_byte tree start _ _ stands)

  -- the first key of a map stands behind the byte of its command, a span and a count
  pub key_there : (start : ℕ) (s : Span) (k : String) (b : BaseExpr) (ps : Pairs) → BaseFits source (MapOf s (pair k b ps)) → Stands tree start (pack_base (MapOf s (pair k b ps))) → instr_of tree (plain_record Op.ExprMapInsert (start + 6)) ≡ some (program.ExprMapInsert k)
  unfolding pack_base
  key_there start s k b ps fits stands =
      let size = span_size s in
      let counted = second_part tree (start + 1) (pack_span s) _ (behind_byte tree start _ _ stands) in
      let keyed = first_part tree (start + 1 + length (pack_span s) + 1) (pack_string k) _ (behind_byte tree (start + 1 + length (pack_span s)) _ _ counted) in
      let here : start + 1 + length (pack_span s) + 1 ≡ start + 6 = omega arith in
      string_means (start + 6) program.ExprMapInsert k fits.2.0 (subst (λ n. Stands tree n (pack_string k)) here keyed)

  pub call_there : (start : ℕ) (name whole : Span) (args : Args) (n : ℕ) → count_args args ≡ n → BaseFits source (Call name whole args) → Stands tree start (pack_base (Call name whole args)) → instr_of tree (record { op = Op.Apply; at = start + 1; arity = n; target = 0 }) ≡ some (program.Apply name (count_args args) whole)
  unfolding pack_base
  call_there start name whole args n counted fits stands =
      callee_means (start + 1) (λ name whole. program.Apply name n whole) name whole _ fits.0 fits.1 (behind_byte tree start _ _ stands)
      ∙ ap (λ m. some (program.Apply name m whole)) (sym counted)

  pub filter_there : (start : ℕ) (name whole : Span) (receiver : Expr) (args : Args) (n : ℕ) → count_args args ≡ n → ExprFits source (Filter name whole receiver args) → Stands tree start (pack_expr (Filter name whole receiver args)) → instr_of tree (record { op = Op.Apply; at = start + 1; arity = n + 1; target = 0 }) ≡ some (program.Apply name (suc (count_args args)) whole)
  unfolding pack_expr
  filter_there start name whole receiver args n counted fits stands =
      let one : n + 1 ≡ suc (count_args args) = omega arith in
      callee_means (start + 1) (λ name whole. program.Apply name (n + 1) whole) name whole _ fits.0 fits.1 (behind_byte tree start _ _ stands)
      ∙ ap (λ m. some (program.Apply name m whole)) one
