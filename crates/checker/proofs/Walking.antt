-- What the reader hands out where a part of a tree stands.
use Rattle.std.proofs.Common.{◌≡◌, ℕ, suc, ◌+◌, ◌≤◌, List, [], ◌++◌, length, Some, None, refl, arith}
use Rattle.meaning.specs.Tree.{BaseExpr, String, Args, Pairs, no_args, arg, no_pairs, pair, count_args, count_pairs}
use Rattle.packing.specs.Limits.{most_bytes, StringFits, BaseFits, ArgsFit, PairsFit}
use Rattle.packing.specs.Packing.{pack_value, pack_string, pack_expr, pack_base, pack_args, pack_pairs, pack}
use Rattle.packing.specs.Unpacking.{string_of}
use Rattle.reader.specs.declared.command.BaseCommand.{BaseCommand}
use Rattle.reader.specs.declared.command.ExprCommand.{ExprCommand}
use Rattle.reader.specs.declared.command.ScopeCommand.{ScopeCommand}
use Rattle.reader.specs.declared.field.PackedText.{PackedText}
use Rattle.reader.specs.declared.literal.PlainValue.{PlainValue}
use Rattle.reader.specs.Fields.{Takes, text_of}
use Rattle.reader.specs.Heads.{base_head, expr_head, scope_head}
use Rattle.reader.specs.AfterByte.{plain_head}
use Rattle.reader.specs.Meanings.{base_of, expr_of, scope_of, plain_of}
use Rattle.checker.specs.There.{Stands, ExprThere, BaseThere, ScopeThere, ValueThere}
use Rattle.checker.specs.TreeHeads.{base_head_of, base_behind, expr_head_of, expr_behind, scope_head_of, scope_behind}
use Rattle.checker.proofs.There.{Headed, head_known, head_read, first_part, second_part}
use Rattle.checker.proofs.TreeHeads.{base_head_reads, expr_head_reads, scope_head_reads, plain_head_reads, placed_string}
use Rattle.checker.proofs.Parts.{BothStand}

module _ (source tree : List ℕ) (pos : ℕ) (short : length source ≤ most_bytes) where
  pub expr_known : ExprThere source tree pos → Takes expr_of tree pos expr_head None → ⊥
  expr_known w takes =
      head_known expr_of expr_head tree pos (pack_expr w.expr) (expr_behind w.expr) (expr_head_of w.expr) (λ at u. expr_head_reads source short at w.expr u w.fits) w.stands takes

  pub expr_headed : (w : ExprThere source tree pos) (x : ExprCommand) (next : ℕ) → next ≤ length tree → Takes expr_of tree pos expr_head (Some (x, next)) → Headed expr_of tree (expr_behind w.expr) (pos + length (pack_expr w.expr)) (expr_head_of w.expr) x next
  expr_headed w x next inside takes =
      head_read expr_of expr_head tree pos (pack_expr w.expr) (expr_behind w.expr) (expr_head_of w.expr) (λ at u. expr_head_reads source short at w.expr u w.fits) w.stands x next inside takes

  pub base_known : BaseThere source tree pos → Takes base_of tree pos base_head None → ⊥
  base_known w takes =
      head_known base_of base_head tree pos (pack_base w.base) (base_behind w.base) (base_head_of w.base) (λ at u. base_head_reads source short at w.base u w.fits) w.stands takes

  pub base_headed : (w : BaseThere source tree pos) (x : BaseCommand) (next : ℕ) → next ≤ length tree → Takes base_of tree pos base_head (Some (x, next)) → Headed base_of tree (base_behind w.base) (pos + length (pack_base w.base)) (base_head_of w.base) x next
  base_headed w x next inside takes =
      head_read base_of base_head tree pos (pack_base w.base) (base_behind w.base) (base_head_of w.base) (λ at u. base_head_reads source short at w.base u w.fits) w.stands x next inside takes

  pub scope_known : ScopeThere source tree pos → Takes scope_of tree pos scope_head None → ⊥
  scope_known w takes =
      head_known scope_of scope_head tree pos (pack w.scope) (scope_behind w.scope) (scope_head_of w.scope) (λ at u. scope_head_reads source short at w.scope u w.fits) w.stands takes

  pub scope_headed : (w : ScopeThere source tree pos) (x : ScopeCommand) (next : ℕ) → next ≤ length tree → Takes scope_of tree pos scope_head (Some (x, next)) → Headed scope_of tree (scope_behind w.scope) (pos + length (pack w.scope)) (scope_head_of w.scope) x next
  scope_headed w x next inside takes =
      head_read scope_of scope_head tree pos (pack w.scope) (scope_behind w.scope) (scope_head_of w.scope) (λ at u. scope_head_reads source short at w.scope u w.fits) w.stands x next inside takes

  -- the key of a map
  pub string_known : (k : String) → StringFits source k → Stands tree pos (pack_string k) → Takes text_of tree pos string_of None → ⊥
  string_known k fits stands takes =
      head_known text_of string_of tree pos (pack_string k) [] k (λ at u. placed_string source short at k u fits) stands takes

  pub string_headed : (k : String) → StringFits source k → Stands tree pos (pack_string k) → (x : PackedText) (next : ℕ) → next ≤ length tree → Takes text_of tree pos string_of (Some (x, next)) → Headed text_of tree [] (pos + length (pack_string k)) k x next
  string_headed k fits stands x next inside takes =
      head_read text_of string_of tree pos (pack_string k) [] k (λ at u. placed_string source short at k u fits) stands x next inside takes

-- a literal's value
module _ (tree : List ℕ) (pos : ℕ) where
  pub value_known : ValueThere tree pos → Takes plain_of tree pos plain_head None → ⊥
  value_known w takes =
      head_known plain_of plain_head tree pos (pack_value w.value) [] w.value (λ at u. plain_head_reads at w.value u w.simple w.fits) w.stands takes

  pub value_headed : (w : ValueThere tree pos) (x : PlainValue) (next : ℕ) → next ≤ length tree → Takes plain_of tree pos plain_head (Some (x, next)) → Headed plain_of tree [] (pos + length (pack_value w.value)) w.value x next
  value_headed w x next inside takes =
      head_read plain_of plain_head tree pos (pack_value w.value) [] w.value (λ at u. plain_head_reads at w.value u w.simple w.fits) w.stands x next inside takes

-- PARTS IN A ROW

module _ (source tree : List ℕ) (pos : ℕ) where
  abbrev pub ArgsParts : Args → ℕ → Type 0
  ArgsParts args n =
      (b : BaseExpr) × (rest : Args) × (args ≡ arg b rest) × (count_args rest ≡ n) × BaseFits source b × ArgsFit source rest × BothStand source tree pos (pack_base b) (pack_args rest)

  pub args_parts : (args : Args) (n : ℕ) → count_args args ≡ suc n → ArgsFit source args → Stands tree pos (pack_args args) → ArgsParts args n
  unfolding pack_args
  args_parts no_args n e f s = absurd (omega arith)
  args_parts (arg b bs) n e f s =
      let less : count_args bs ≡ n = omega arith in
      (b, bs, refl, less, f.0, f.1, (first_part tree pos (pack_base b) (pack_args bs) s, second_part tree pos (pack_base b) (pack_args bs) s))

  abbrev pub PairsParts : Pairs → ℕ → Type 0
  PairsParts pairs n =
      (k : String) × (b : BaseExpr) × (rest : Pairs) × (pairs ≡ pair k b rest) × (count_pairs rest ≡ n)
      × StringFits source k × BaseFits source b × PairsFit source rest
      × Stands tree pos (pack_string k) × BothStand source tree (pos + length (pack_string k)) (pack_base b) (pack_pairs rest)

  pub pairs_parts : (pairs : Pairs) (n : ℕ) → count_pairs pairs ≡ suc n → PairsFit source pairs → Stands tree pos (pack_pairs pairs) → PairsParts pairs n
  unfolding pack_pairs
  pairs_parts no_pairs n e f s = absurd (omega arith)
  pairs_parts (pair k b ps) n e f s =
      let less : count_pairs ps ≡ n = omega arith in
      let behind = second_part tree pos (pack_string k) (pack_base b ++ pack_pairs ps) s in
      (k, b, ps, refl, less, f.0, f.1, f.2, first_part tree pos (pack_string k) (pack_base b ++ pack_pairs ps) s, (first_part tree (pos + length (pack_string k)) (pack_base b) (pack_pairs ps) behind, second_part tree (pos + length (pack_string k)) (pack_base b) (pack_pairs ps) behind))
