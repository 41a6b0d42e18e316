-- The arms of the compiler's methods over expressions: the instructions of the parts give those of the whole.
use Rattle.std.proofs.Common.{◌≡◌, ℕ, suc, ◌+◌, ◌<◌, ◌≤◌, true, false, List, length, Some, None, sym, refl, ap, ◌∙◌, subst, arith, length-append}
use Rattle.meaning.specs.Bytes.{little_endian}
use Rattle.meaning.specs.declared.tree.Span.{Span}
use Rattle.meaning.specs.declared.tree.Member.{Member}
use Rattle.meaning.specs.Tree.{String, Expr, BaseExpr, Variable, Literal, ListOf, MapOf, Paren, Call, no_pairs, pair, count_args}
use Rattle.packing.specs.Limits.{BaseFits, ExprFits}
use Rattle.packing.specs.Packing.{pack_span, pack_expr, pack_base, pack_args, pack_pairs}
use Rattle.program.specs.Program.{compile_expr, compile_base, Apply, ExprStartVar, ExprStartLiteral, ExprStartList, ExprStartMap, ExprMapInsert}
use Rattle.reader.specs.declared.command.BaseCommand.{BaseCommand}
use Rattle.reader.specs.declared.command.ExprCommand.{ExprCommand}
use Rattle.reader.specs.declared.literal.PlainValue.{PlainValue}
use Rattle.reader.specs.AfterByte.{plain_head}
use Rattle.reader.specs.Fields.{Takes}
use Rattle.reader.specs.Heads.{BaseHead, VariableHead, LiteralHead, ListHead, EmptyMapHead, MapHead, ParenHead, CallHead, ExprHead, BaseOf, FilterHead, expr_head, base_head}
use Rattle.reader.specs.Meanings.{base_of, expr_of, plain_of}
use Rattle.checker.specs.There.{Stands, ExprThere, BaseThere, ArgsThere, PairsThere, ValueThere}
use Rattle.checker.specs.TreeHeads.{base_behind, expr_behind, expr_head_of}
use Rattle.checker.proofs.Parts.{BaseParts, base_parts, ExprParts, expr_parts}
use Rattle.checker.proofs.There.{Headed}
use Rattle.checker.proofs.Walking.{expr_headed, base_headed, value_known, value_headed}
use Rattle.compiler.specs.declared.instr.Instr.{Instr}
use Rattle.compiler.specs.declared.instr.Op.{Op}
use Rattle.compiler.specs.declared.compile.Compiled.{Compiled}
use Rattle.compiler.specs.declared.writing.Compiler.{Compiler}
use Rattle.compiler.specs.Making.{plain_record, apply_record}
use Rattle.compiler.specs.Writing.{Pushed}
use Rattle.compiler.specs.Compiled.{Over, BaseOver, ExprIs, BaseIs, ExprMade, BaseMade, BehindMade, ArgsMade, ItemsMade, PairsMade}
use Rattle.compiler.proofs.Means.{made_one, made_on}
use Rattle.compiler.proofs.Operands.{variable_there, literal_there, list_there, map_there, key_there, call_there, filter_there}

-- FROM AN EXPRESSION'S COMMAND

module _ {tree : List ℕ} {pos : ℕ} (w : Over (λ s. ExprThere s tree pos)) where
  module _ (command : ExprCommand) {next : ℕ} (moves : (pos < next) × (next ≤ length tree)) (takes : Takes expr_of tree pos expr_head (Some (command, next))) where
    abbrev headed : Headed expr_of tree (expr_behind w.there.expr) (pos + length (pack_expr w.there.expr)) (expr_head_of w.there.expr) command next
    headed = expr_headed w.source tree pos w.short w.there command next moves.1 takes

    abbrev parts_by : (h : ExprHead) → expr_of command ≡ h → ExprParts w.source tree next w.there.expr h
    parts_by h told = let x = headed in expr_parts w.source tree next w.there.expr h (sym x.head ∙ told) w.there.fits x.stands

    -- one that is no filter
    module _ {base : BaseCommand} (told : command ≡ ExprCommand.Base base) where
      abbrev base_there : ExprParts w.source tree next w.there.expr (BaseOf (base_of base))
      base_there = parts_by (BaseOf (base_of base)) (ap expr_of told)

      abbrev pub base_of_expr : Over (λ s. BaseOver s tree pos (base_of base) next)
      unfolding pack_expr
      base_of_expr =
          let p = base_there in
          let x = headed in
          record {
            source = w.source;
            short = w.short;
            there = record { base = p.0; headed = p.2; fits = p.3; along = moves.0; whole = subst (λ (e : Expr). Stands tree pos (pack_expr e)) p.1 w.there.stands; stands = p.4; ends = subst (λ (e : Expr). next + length (expr_behind e) ≡ pos + length (pack_expr e)) p.1 x.ends };
          }

      pub base_arm : {r : Compiled} {before after : Compiler} → BehindMade tree pos next (base_of base) r before after → ExprIs tree w.there.expr (pos + length (pack_expr w.there.expr)) r before after
      unfolding compile_expr pack_expr
      base_arm {r} {before} {after} behind =
          let m = behind base_of_expr in
          let p = base_there in
          let x = headed in
          let ends : next + length (base_behind p.0) ≡ pos + length (pack_expr w.there.expr) = ap (λ e. next + length (expr_behind e)) (sym p.1) ∙ x.ends in
          subst (λ (e : Expr). ExprIs tree e (pos + length (pack_expr w.there.expr)) r before after) (sym p.1)
          (record { made = m.0.made; ends = m.0.ends ∙ ends }, m.1)

    module _ {name whole : Span} {count : ℕ} (told : expr_of command ≡ FilterHead name whole count) where
      abbrev filter_parts : ExprParts w.source tree next w.there.expr (FilterHead name whole count)
      filter_parts = parts_by (FilterHead name whole count) told

      abbrev pub receiver_over : Over (λ s. ExprThere s tree next)
      receiver_over = let p = filter_parts in record { source = w.source; short = w.short; there = record { expr = p.0; fits = p.6; stands = p.8.0 } }

      abbrev pub args_over : {r : Compiled} {before after : Compiler} → ExprMade tree next r before after → Over (λ s. ArgsThere s tree count r.end)
      args_over made =
          let p = filter_parts in
          let m = (made receiver_over).0 in
          record { source = w.source; short = w.short; there = record { args = p.1; counted = p.5; fits = p.7; stands = subst (λ at. Stands tree at (pack_args p.1)) (sym m.ends) p.8.1 } }

      pub few_args : count ≤ 7
      few_args =
          let p = filter_parts in
          let few = (subst (ExprFits w.source) p.2 w.there.fits).2 in
          let counted = p.5 in
          omega arith

      pub filter_arm : {receiver : Compiled} {end : ℕ} {r : Compiled} {before one two after : Compiler} (made : ExprMade tree next receiver before one) → ArgsMade tree receiver.end count end one two → r.end ≡ end → r.applied ≡ true → Pushed (apply_record (pos + 1) (count + 1)) two after → ExprIs tree w.there.expr (pos + length (pack_expr w.there.expr)) r before after
      unfolding compile_expr pack_expr
      filter_arm {receiver} {end} {r} {before} {one} {two} {after} made args is applied pushed =
          let p = filter_parts in
          let x = headed in
          let fits = subst (ExprFits w.source) p.2 w.there.fits in
          let stands = subst (λ (e : Expr). Stands tree pos (pack_expr e)) p.2 w.there.stands in
          let m = (made receiver_over).0 in
          let n = args (args_over made) in
          let size : length (expr_behind w.there.expr) ≡ length (pack_expr p.0) + length (pack_args p.1) = ap (λ e. length (expr_behind e)) p.2 ∙ length-append (pack_expr p.0) (pack_args p.1) in
          let ends = x.ends in
          let ends' = m.ends in
          let ends'' = n.ends in
          let apply = made_one _ (Apply name (suc (count_args p.1)) whole) (filter_there w.source tree w.short pos name whole p.0 p.1 count p.5 fits stands) refl pushed in
          subst (λ (e : Expr). ExprIs tree e (pos + length (pack_expr w.there.expr)) r before after) (sym p.2)
          (record { made = made_on m.made (made_on n.made apply); ends = omega arith }, applied)

module _ {tree : List ℕ} {pos : ℕ} (w : Over (λ s. BaseThere s tree pos)) where
  module _ (command : BaseCommand) {next : ℕ} (moves : (pos < next) × (next ≤ length tree)) (takes : Takes base_of tree pos base_head (Some (command, next))) where
    abbrev pub base_over : Over (λ s. BaseOver s tree pos (base_of command) next)
    base_over =
        let x = base_headed w.source tree pos w.short w.there command next moves.1 takes in
        record { source = w.source; short = w.short; there = record { base = w.there.base; headed = sym x.head; fits = w.there.fits; along = moves.0; whole = w.there.stands; stands = x.stands; ends = x.ends } }

    pub base_expr_arm : {r : Compiled} {before after : Compiler} → BehindMade tree pos next (base_of command) r before after → BaseIs tree w.there.base (pos + length (pack_base w.there.base)) r before after
    base_expr_arm behind =
        let over = base_over in
        let m = behind over in
        (record { made = m.0.made; ends = m.0.ends ∙ over.there.ends }, m.1)

-- BEHIND A HEAD

-- a command has two bytes at least
head_size : (b : BaseExpr) → length (base_behind b) + 2 ≤ length (pack_base b)
unfolding pack_base pack_span little_endian
head_size (Variable v) = omega arith
head_size (Literal s v) = simp length-append (omega arith)
head_size (ListOf s args) = simp length-append (omega arith)
head_size (MapOf s no_pairs) = omega arith
head_size (MapOf s (pair k b ps)) = simp length-append (omega arith)
head_size (Paren s e) = simp length-append (omega arith)
head_size (Call name whole args) = simp length-append (omega arith)

pub base_along : {tree : List ℕ} {start pos : ℕ} {head : BaseHead} → Over (λ s. BaseOver s tree start head pos) → start + 2 ≤ pos
base_along w =
    let size = head_size w.there.base in
    let ends = w.there.ends in
    omega arith

abbrev HeadedOver : (tree : List ℕ) (start pos : ℕ) → BaseHead → Type 0
HeadedOver tree start pos h = Over (λ s. BaseOver s tree start h pos)

module _ {tree : List ℕ} {start pos : ℕ} where
  abbrev parts_of : {h : BaseHead} (w : HeadedOver tree start pos h) → BaseParts w.source tree pos w.there.base h
  parts_of {h} w = base_parts w.source tree pos w.there.base h w.there.headed w.there.fits w.there.stands

  abbrev value_there : {s : Span} → HeadedOver tree start pos (LiteralHead s) → ValueThere tree pos
  value_there w = let p = parts_of w in record { value = p.0; simple = p.3; fits = p.4; stands = p.5 }

  pub value_due : {s : Span} → HeadedOver tree start pos (LiteralHead s) → Takes plain_of tree pos plain_head None → ⊥
  value_due w takes = value_known tree pos (value_there w) takes

  abbrev pub list_over : {s : Span} {n : ℕ} → HeadedOver tree start pos (ListHead s n) → Over (λ s. ArgsThere s tree n pos)
  list_over w = let p = parts_of w in record { source = w.source; short = w.short; there = record { args = p.0; counted = p.3; fits = p.4; stands = p.5 } }

  abbrev pub value_over : {s : Span} {k : String} {n : ℕ} → HeadedOver tree start pos (MapHead s k n) → Over (λ s. BaseThere s tree pos)
  value_over w = let p = parts_of w in record { source = w.source; short = w.short; there = record { base = p.0; fits = p.6; stands = p.8.0 } }

  abbrev pub pairs_over : {s : Span} {k : String} {n : ℕ} → HeadedOver tree start pos (MapHead s k n) → {r : Compiled} {before after : Compiler} → BaseMade tree pos r before after → Over (λ s. PairsThere s tree n r.end)
  pairs_over w made =
      let p = parts_of w in
      let m = (made (value_over w)).0 in
      record { source = w.source; short = w.short; there = record { pairs = p.1; counted = p.5; fits = p.7; stands = subst (λ at. Stands tree at (pack_pairs p.1)) (sym m.ends) p.8.1 } }

  abbrev pub paren_over : {s : Span} → HeadedOver tree start pos (ParenHead s) → Over (λ s. ExprThere s tree pos)
  paren_over w = let p = parts_of w in record { source = w.source; short = w.short; there = record { expr = p.0; fits = p.3; stands = p.4 } }

  abbrev pub call_over : {name whole : Span} {n : ℕ} → HeadedOver tree start pos (CallHead name whole n) → Over (λ s. ArgsThere s tree n pos)
  call_over w = let p = parts_of w in record { source = w.source; short = w.short; there = record { args = p.0; counted = p.4; fits = p.5; stands = p.6 } }

  fits_as : {h : BaseHead} (w : HeadedOver tree start pos h) (b : BaseExpr) → w.there.base ≡ b → BaseFits w.source b × Stands tree start (pack_base b)
  fits_as w b is = (subst (BaseFits w.source) is w.there.fits, subst (λ x. Stands tree start (pack_base x)) is w.there.whole)

  -- it is another expression, by its parts
  same_base : {h : BaseHead} {r : Compiled} {before after : Compiler} (w : HeadedOver tree start pos h) (b : BaseExpr) → w.there.base ≡ b → BaseIs tree b (pos + length (base_behind b)) r before after → BaseIs tree w.there.base (pos + length (base_behind w.there.base)) r before after
  same_base {h} {r} {before} {after} w b is made = subst (λ x. BaseIs tree x (pos + length (base_behind x)) r before after) (sym is) made

  module _ {before after : Compiler} {made : Instr} where
    pub variable_arm : {ms : List Member} → made ≡ plain_record Op.ExprStartVar (start + 1) → Pushed made before after → BehindMade tree start pos (VariableHead ms) (record { end = pos; applied = false }) before after
    unfolding compile_base
    variable_arm is pushed = λ w.
        let p = parts_of w in
        let f = fits_as w _ p.1 in
        same_base w _ p.1 (record { made = made_one _ (ExprStartVar p.0) (variable_there w.source tree w.short start p.0 f.0 f.1) is pushed; ends = omega arith }, refl)

    pub literal_arm : {s : Span} (value : PlainValue) {end : ℕ} → (pos < end) × (end ≤ length tree) → Takes plain_of tree pos plain_head (Some (value, end)) → made ≡ plain_record Op.ExprStartLiteral (start + 1) → Pushed made before after → BehindMade tree start pos (LiteralHead s) (record { end = end; applied = false }) before after
    unfolding compile_base
    literal_arm {s} value {end} moves takes is pushed = λ w.
        let p = parts_of w in
        let f = fits_as w _ p.1 in
        let ends = (value_headed tree pos (value_there w) value end moves.1 takes).ends in
        same_base w _ p.1 (record { made = made_one _ (ExprStartLiteral s p.0) (literal_there w.source tree w.short start s p.0 f.0 f.1) is pushed; ends = omega arith }, refl)

    pub list_arm : {s : Span} {n end : ℕ} {last : Compiler} → made ≡ plain_record Op.ExprStartList (start + 1) → Pushed made before after → ItemsMade tree pos n end after last → BehindMade tree start pos (ListHead s n) (record { end = end; applied = false }) before last
    unfolding compile_base
    list_arm {s} is pushed items = λ w.
        let p = parts_of w in
        let f = fits_as w _ p.1 in
        let m = items (list_over w) in
        same_base w _ p.1 (record { made = made_on (made_one _ (ExprStartList s) (list_there w.source tree w.short start s p.0 f.0 f.1) is pushed) m.made; ends = m.ends }, refl)

    pub empty_map_arm : {s : Span} → made ≡ plain_record Op.ExprStartMap (start + 1) → Pushed made before after → BehindMade tree start pos (EmptyMapHead s) (record { end = pos; applied = false }) before after
    unfolding compile_base
    empty_map_arm {s} is pushed = λ w.
        let p = parts_of w in
        let f = fits_as w _ p.0 in
        same_base w _ p.0 (record { made = made_one _ (ExprStartMap s) (map_there w.source tree w.short start s no_pairs f.0 f.1) is pushed; ends = omega arith }, refl)

    pub map_arm : {s : Span} {k : String} {n end : ℕ} {value : Compiled} {valued inserted last : Compiler} {keyed : Instr} → made ≡ plain_record Op.ExprStartMap (start + 1) → Pushed made before after → BaseMade tree pos value after valued → keyed ≡ plain_record Op.ExprMapInsert (start + 6) → Pushed keyed valued inserted → PairsMade tree value.end n end inserted last → BehindMade tree start pos (MapHead s k n) (record { end = end; applied = false }) before last
    unfolding compile_base
    map_arm {s} {k} is pushed value is' pushed' pairs = λ w.
        let p = parts_of w in
        let f = fits_as w _ p.2 in
        let v = (value (value_over w)).0 in
        let m = pairs (pairs_over w value) in
        let size = length-append (pack_base p.0) (pack_pairs p.1) in
        let ends = v.ends in
        let ends' = m.ends in
        let begun = made_one _ (ExprStartMap s) (map_there w.source tree w.short start s (pair k p.0 p.1) f.0 f.1) is pushed in
        let first = made_one _ (ExprMapInsert k) (key_there w.source tree w.short start s k p.0 p.1 f.0 f.1) is' pushed' in
        same_base w _ p.2 (record { made = made_on begun (made_on v.made (made_on first m.made)); ends = omega arith }, refl)

  module _ {r : Compiled} {before after : Compiler} where
    pub paren_arm : {s : Span} → ExprMade tree pos r before after → BehindMade tree start pos (ParenHead s) r before after
    unfolding compile_base
    paren_arm inner = λ w. same_base w _ (parts_of w).1 (inner (paren_over w))

    pub call_arm : {name whole : Span} {n end : ℕ} {last : Compiler} → ArgsMade tree pos n end before after → r.end ≡ end → r.applied ≡ true → Pushed (apply_record (start + 1) n) after last → BehindMade tree start pos (CallHead name whole n) r before last
    unfolding compile_base
    call_arm {name} {whole} {n} {end} {last} args is applied pushed = λ w.
        let p = parts_of w in
        let f = fits_as w _ p.1 in
        let m = args (call_over w) in
        let apply = made_one _ (Apply name (count_args p.0) whole) (call_there w.source tree w.short start name whole p.0 n p.4 f.0 f.1) refl pushed in
        same_base w _ p.1 (record { made = made_on m.made apply; ends = is ∙ m.ends }, applied)
