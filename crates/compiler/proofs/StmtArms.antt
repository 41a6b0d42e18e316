-- The arms of the compiler's methods over statements.
use Rattle.std.proofs.Common.{◌≡◌, ℕ, ◌+◌, ◌≤◌, Bool, true, false, List, [], ◌++◌, length, sym, refl, ap, ◌∙◌, subst, append_assoc, append-nil, arith, length-append}
use mathlib.Core.Option.{some}
use Rattle.meaning.specs.declared.tree.Span.{Span}
use Rattle.meaning.specs.Spans.{expr_span}
use Rattle.meaning.specs.Tree.{LoopVars, Item, KeyValue, Expr, Base, Filter, Variable, Literal, ListOf, MapOf, Paren, Call, no_pairs, pair, Stmt, Scope, For}
use Rattle.packing.specs.Limits.{most_bytes, StmtFits}
use Rattle.packing.specs.Packing.{pack_span, pack_string, pack_expr, pack, pack_stmt}
use Rattle.program.specs.Program.{compile_expr, compile_stmt, compile_scope, count, expr_count, jump_past}
use Rattle.program.specs.Program as program
use Rattle.program.proofs.Laws.{count_is_length}
use Rattle.reader.specs.declared.command.StmtCommand.{StmtCommand}
use Rattle.reader.specs.declared.field.PackedText.{PackedText}
use Rattle.reader.specs.Fields.{text_of}
use Rattle.reader.specs.Heads.{StmtHead}
use Rattle.reader.specs.Meanings.{stmt_of}
use Rattle.checker.specs.There.{Stands, ExprThere, ScopeThere, NestedThere}
use Rattle.checker.specs.TreeHeads.{expr_head_of, stmt_behind}
use Rattle.checker.proofs.There.{first_part, second_part, three_stand}
use Rattle.checker.proofs.Parts.{StmtParts, stmt_parts}
use Rattle.checker.proofs.TreeHeads.{expr_head_reads, stmt_head_reads}
use Rattle.compiler.specs.declared.instr.Instr.{Instr}
use Rattle.compiler.specs.declared.instr.Op.{Op}
use Rattle.compiler.specs.declared.compile.Compiled.{Compiled}
use Rattle.compiler.specs.declared.writing.Compiler.{Compiler}
use Rattle.compiler.specs.Records.{instr_of, head_span}
use Rattle.compiler.specs.Making.{plain_record, jump_record, past_op}
use Rattle.compiler.specs.Writing.{Pushed, Patched, aimed}
use Rattle.compiler.specs.Compiled.{PartMade, Over, StmtOver, LoopOver, ExprMade, EmitMade, StmtMade, ScopeMade, LoopMade}
use Rattle.compiler.proofs.Means.{made_counts, made_one, made_on, made_jump, behind_byte}
use Rattle.compiler.proofs.Operands.{span_means, string_means}

-- a jump past a branch
past_means : (tree : List ℕ) (negated : Bool) (hole target : ℕ) → instr_of tree (aimed target (jump_record (past_op negated) hole)) ≡ some (jump_past negated target)
past_means tree true hole target = refl
past_means tree false hole target = refl

past_is : (negated : Bool) {op : Op} {hole : ℕ} {made : Instr} → op ≡ past_op negated → made ≡ jump_record op hole → made ≡ jump_record (past_op negated) hole
past_is negated {op} {hole} past is = is ∙ ap (λ (o : Op). jump_record o hole) past

-- BLOCKS

module _ {tree : List ℕ} {pos : ℕ} (w : Over (λ s. NestedThere s tree pos)) where
  -- the expression of a block, and its statements behind that
  abbrev pub block_expr : Over (λ s. ExprThere s tree pos)
  block_expr = record { source = w.source; short = w.short; there = record { expr = w.there.expr; fits = w.there.expr_fits; stands = first_part tree pos (pack_expr w.there.expr) (pack w.there.scope) w.there.stands } }

  abbrev pub block_scope : {r : Compiled} {before after : Compiler} → ExprMade tree pos r before after → Over (λ s. ScopeThere s tree r.end)
  block_scope made = record {
    source = w.source;
    short = w.short;
    there = record { scope = w.there.scope; fits = w.there.scope_fits; stands = subst (λ at. Stands tree at (pack w.there.scope)) (sym (made block_expr).0.ends) (second_part tree pos (pack_expr w.there.expr) (pack w.there.scope) w.there.stands) };
  }

-- BEHIND A HEAD

module _ {tree : List ℕ} {start pos : ℕ} {head : StmtHead} (w : Over (λ s. StmtOver s tree start head pos)) (s : Stmt) (is : w.there.stmt ≡ s) where
  pub fits_as : StmtFits w.source s × Stands tree start (pack_stmt s)
  fits_as = (subst (StmtFits w.source) is w.there.fits, subst (λ x. Stands tree start (pack_stmt x)) is w.there.whole)

  -- it is another statement, by its parts
  same_stmt : {end : ℕ} {before after : Compiler} → PartMade tree (compile_stmt s before.len) (pos + length (stmt_behind s)) end before after → PartMade tree (compile_stmt w.there.stmt before.len) (pos + length (stmt_behind w.there.stmt)) end before after
  same_stmt {end} {before} {after} made = subst (λ x. PartMade tree (compile_stmt x before.len) (pos + length (stmt_behind x)) end before after) (sym is) made

abbrev StmtOverHere : (tree : List ℕ) (start pos : ℕ) → StmtCommand → Type 0
StmtOverHere tree start pos c = Over (λ s. StmtOver s tree start (stmt_of c) pos)

module _ {tree : List ℕ} {start pos : ℕ} {command : StmtCommand} where
  abbrev parts_of : {c : StmtCommand} → command ≡ c → (w : StmtOverHere tree start pos command) → StmtParts w.source tree pos w.there.stmt (stmt_of c)
  parts_of {c} told w = stmt_parts w.source tree pos w.there.stmt (stmt_of c) (w.there.headed ∙ ap stmt_of told) w.there.fits w.there.stands

  abbrev pub inline_expr : command ≡ StmtCommand.Inline → StmtOverHere tree start pos command → Over (λ s. ExprThere s tree pos)
  inline_expr told w = let p = parts_of told w in record { source = w.source; short = w.short; there = record { expr = p.0; fits = p.2; stands = p.3 } }

  abbrev pub include_expr : {name : PackedText} → command ≡ StmtCommand.IncludeWith name → StmtOverHere tree start pos command → Over (λ s. ExprThere s tree pos)
  include_expr told w = let p = parts_of told w in record { source = w.source; short = w.short; there = record { expr = p.0; fits = p.3; stands = p.4 } }

  abbrev pub if_block : {negated : Bool} → command ≡ StmtCommand.If negated → StmtOverHere tree start pos command → Over (λ s. NestedThere s tree pos)
  if_block told w = let p = parts_of told w in record { source = w.source; short = w.short; there = record { expr = p.0; scope = p.1; expr_fits = p.3.0; scope_fits = p.3.1; stands = p.3.2 } }

  abbrev pub with_block : {name : Span} → command ≡ StmtCommand.With name → StmtOverHere tree start pos command → Over (λ s. NestedThere s tree pos)
  with_block told w = let p = parts_of told w in record { source = w.source; short = w.short; there = record { expr = p.0; scope = p.1; expr_fits = p.4.0; scope_fits = p.4.1; stands = p.4.2 } }

  -- an if with its else has three parts
  abbrev pub choice_block : {negated : Bool} → command ≡ StmtCommand.IfElse negated → StmtOverHere tree start pos command → Over (λ s. NestedThere s tree pos)
  choice_block told w =
      let p = parts_of told w in
      record { source = w.source; short = w.short; there = record { expr = p.0; scope = p.1; expr_fits = p.4; scope_fits = p.5; stands = (three_stand tree pos (pack_expr p.0) (pack p.1) (pack p.2) p.7).0 } }

  abbrev pub else_scope : {negated : Bool} (told : command ≡ StmtCommand.IfElse negated) (w : StmtOverHere tree start pos command) {e : Compiled} {then_end : ℕ} {before one two after : Compiler} → (made : ExprMade tree pos e before one) → ScopeMade tree e.end then_end two after → Over (λ s. ScopeThere s tree then_end)
  else_scope told w made scope =
      let p = parts_of told w in
      let m = (made (block_expr (choice_block told w))).0 in
      let s = scope (block_scope (choice_block told w) made) in
      record {
        source = w.source;
        short = w.short;
        there = record { scope = p.2; fits = p.6; stands = subst (λ at. Stands tree at (pack p.2)) (sym (s.ends ∙ ap (λ n. n + length (pack p.1)) m.ends)) (three_stand tree pos (pack_expr p.0) (pack p.1) (pack p.2) p.7).1 };
      }

  -- ITS INSTRUCTIONS

  module _ {before after : Compiler} {made : Instr} where
    pub raw_arm : {s : Span} → command ≡ StmtCommand.Raw s → made ≡ plain_record Op.EmitRaw (start + 1) → Pushed made before after → StmtMade tree start pos (stmt_of command) pos before after
    unfolding compile_stmt pack_stmt
    raw_arm {s} told is pushed = λ w.
        let p = parts_of told w in
        let f = fits_as w _ p.0 in
        let stands = subst (Stands tree (start + 1)) (sym (append-nil (pack_span s))) (behind_byte tree start _ _ f.1) in
        same_stmt w _ p.0 (record { made = made_one _ (program.EmitRaw s) (span_means w.source tree w.short (start + 1) program.EmitRaw s [] p.1 stands) is pushed; ends = omega arith })

    pub include_arm : {name : PackedText} → command ≡ StmtCommand.Include name → made ≡ plain_record Op.Include (start + 1) → Pushed made before after → StmtMade tree start pos (stmt_of command) pos before after
    unfolding compile_stmt pack_stmt
    include_arm {name} told is pushed = λ w.
        let p = parts_of told w in
        let f = fits_as w _ p.0 in
        same_stmt w _ p.0 (record { made = made_one _ (program.Include (text_of name)) (string_means w.source tree w.short (start + 1) program.Include (text_of name) p.1 (behind_byte tree start _ _ f.1)) is pushed; ends = omega arith })

  module _ {before one : Compiler} {e : Compiled} (expr : ExprMade tree pos e before one) where
    pub inline_arm : {after : Compiler} → command ≡ StmtCommand.Inline → EmitMade e one after → StmtMade tree start pos (stmt_of command) e.end before after
    unfolding compile_stmt
    inline_arm told emit = λ w.
        let p = parts_of told w in
        let m = expr (inline_expr told w) in
        same_stmt w _ p.1 (record { made = emit tree p.0 before m.0.made m.1; ends = m.0.ends })

    module _ {two : Compiler} {made : Instr} where
      pub include_with_arm : {name : PackedText} → command ≡ StmtCommand.IncludeWith name → made ≡ plain_record Op.IncludeWith (start + 1) → Pushed made one two → StmtMade tree start pos (stmt_of command) e.end before two
      unfolding compile_stmt pack_stmt
      include_with_arm {name} told is pushed = λ w.
          let p = parts_of told w in
          let f = fits_as w _ p.1 in
          let m = (expr (include_expr told w)).0 in
          let named = first_part tree (start + 1) (pack_string (text_of name)) _ (behind_byte tree start _ _ f.1) in
          let included = made_one _ (program.IncludeWith (text_of name)) (string_means w.source tree w.short (start + 1) program.IncludeWith (text_of name) p.2 named) is pushed in
          same_stmt w _ p.1 (record { made = made_on m.made included; ends = m.ends })

      pub if_arm : {negated : Bool} {op : Op} {hole past end : ℕ} {three after : Compiler} → command ≡ StmtCommand.If negated → op ≡ past_op negated → made ≡ jump_record op hole → past ≡ one.len → Pushed made one two → ScopeMade tree e.end end two three → Patched past three.len three after → StmtMade tree start pos (stmt_of command) end before after
      unfolding compile_stmt
      if_arm {negated} {op} {hole} {past} {end} {three} {after} told op_is is number pushed scope patches = λ w.
          let p = parts_of told w in
          let x = p.0 in
          let c = p.1 in
          let m = (expr (block_expr (if_block told w))).0 in
          let s = scope (block_scope (if_block told w) expr) in
          let size = length-append (pack_expr x) (pack c) in
          let ends = m.ends in
          let ends' = s.ends in
          let expr_counts = made_counts m.made in
          let body_counts = pushed.counts in
          let scope_counts = made_counts s.made in
          let counted = count_is_length c two.len in
          let at_body : two.len ≡ before.len + expr_count x + 1 = omega arith in
          let at_end : three.len ≡ before.len + expr_count x + 1 + count c = omega arith in
          let j = made_jump (jump_record (past_op negated) hole) (jump_past negated three.len) (past_means tree negated hole three.len) (past_is negated op_is is) pushed s.made number patches in
          same_stmt w _ p.2 (rw (← at_end, ← at_body) (record { made = made_on m.made j; ends = omega arith }))

      pub if_else_arm : {negated : Bool} {op : Op} {hole hole' past over then_end else_end : ℕ} {made' : Instr} {three four five six after : Compiler} → command ≡ StmtCommand.IfElse negated → op ≡ past_op negated → made ≡ jump_record op hole → past ≡ one.len → Pushed made one two → ScopeMade tree e.end then_end two three → made' ≡ jump_record Op.Jump hole' → over ≡ three.len → Pushed made' three four → ScopeMade tree then_end else_end four five → Patched over five.len five six → Patched past four.len six after → StmtMade tree start pos (stmt_of command) else_end before after
      unfolding compile_stmt
      if_else_arm {negated} {op} {hole} {hole'} {past} {over} {then_end} {else_end} {made'} {three} {four} {five} {six} {after} told op_is is number pushed scope is' number' pushed' scope' patches' patches = λ w.
          let p = parts_of told w in
          let x = p.0 in
          let c = p.1 in
          let d = p.2 in
          let m = (expr (block_expr (choice_block told w))).0 in
          let s = scope (block_scope (choice_block told w) expr) in
          let s' = scope' (else_scope told w expr scope) in
          let size = length-append (pack_expr x) (pack c ++ pack d) in
          let size' = length-append (pack c) (pack d) in
          let ends = m.ends in
          let ends' = s.ends in
          let ends'' = s'.ends in
          let expr_counts = made_counts m.made in
          let body_counts = pushed.counts in
          let scope_counts = made_counts s.made in
          let over_counts = pushed'.counts in
          let else_counts = made_counts s'.made in
          let counted = count_is_length c two.len in
          let counted' = count_is_length d four.len in
          let at_body : two.len ≡ before.len + expr_count x + 1 = omega arith in
          let at_else : four.len ≡ before.len + expr_count x + 1 + count c + 1 = omega arith in
          let at_end : five.len ≡ before.len + expr_count x + 1 + count c + 1 + count d = omega arith in
          let j' = made_jump (jump_record Op.Jump hole') (program.Jump five.len) refl is' pushed' s'.made number' patches' in
          let j = made_jump (jump_record (past_op negated) hole) (jump_past negated four.len) (past_means tree negated hole four.len) (past_is negated op_is is) pushed (made_on s.made j') number patches in
          same_stmt w _ p.3 (rw (← at_end, ← at_else, ← at_body) (record { made = made_on m.made j; ends = omega arith }))

      pub with_arm : {name : Span} {end : ℕ} {three four : Compiler} {made' : Instr} → command ≡ StmtCommand.With name → made ≡ plain_record Op.WithStart (start + 1) → Pushed made one two → ScopeMade tree e.end end two three → made' ≡ plain_record Op.WithEnd 0 → Pushed made' three four → StmtMade tree start pos (stmt_of command) end before four
      unfolding compile_stmt pack_stmt
      with_arm {name} told is pushed scope is' pushed' = λ w.
          let p = parts_of told w in
          let f = fits_as w _ p.2 in
          let x = p.0 in
          let c = p.1 in
          let m = (expr (block_expr (with_block told w))).0 in
          let s = scope (block_scope (with_block told w) expr) in
          let size = length-append (pack_expr x) (pack c) in
          let ends = m.ends in
          let ends' = s.ends in
          let expr_counts = made_counts m.made in
          let body_counts = pushed.counts in
          let at_body : two.len ≡ before.len + expr_count x + 1 = omega arith in
          let begun = made_one _ (program.WithStart name) (span_means w.source tree w.short (start + 1) program.WithStart name _ p.3 (behind_byte tree start _ _ f.1)) is pushed in
          let ended = made_one _ program.WithEnd refl is' pushed' in
          same_stmt w _ p.2 (rw (← at_body) (record { made = made_on m.made (made_on begun (made_on s.made ended)); ends = omega arith }))

-- LOOPS

span_of_head : (e : Expr) → head_span (expr_head_of e) ≡ some (expr_span e)
span_of_head (Base (Variable v)) = refl
span_of_head (Base (Literal s v)) = refl
span_of_head (Base (ListOf s args)) = refl
span_of_head (Base (MapOf s no_pairs)) = refl
span_of_head (Base (MapOf s (pair k b ps))) = refl
span_of_head (Base (Paren s e)) = refl
span_of_head (Base (Call name whole args)) = refl
span_of_head (Filter name whole receiver args) = refl

loop_means : (source tree : List ℕ) → length source ≤ most_bytes → (start : ℕ) (vars : LoopVars) (e : Expr) (c : Scope) → StmtFits source (For vars e c) → Stands tree start (pack_stmt (For vars e c)) → instr_of tree (plain_record Op.LoopStart start) ≡ some (program.LoopStart vars (expr_span e))
loop_means source tree short start (Item s) e c fits stands =
    rw (stands.reads, stmt_head_reads source short 0 (For (Item s) e c) _ fits, append_assoc (pack_expr e) (pack c), expr_head_reads source short 0 e _ fits.1.fits, span_of_head e)
loop_means source tree short start (KeyValue k v both) e c fits stands =
    rw (stands.reads, stmt_head_reads source short 0 (For (KeyValue k v both) e c) _ fits, append_assoc (pack_expr e) (pack c), expr_head_reads source short 0 e _ fits.1.fits, span_of_head e)

module _ {tree : List ℕ} {start pos : ℕ} where
  abbrev pub loop_block : Over (λ s. LoopOver s tree start pos) → Over (λ s. NestedThere s tree pos)
  loop_block w = record { source = w.source; short = w.short; there = record { expr = w.there.expr; scope = w.there.scope; expr_fits = w.there.fits.1.fits; scope_fits = w.there.fits.2; stands = w.there.stands } }

  pub loop_arm : {e : Compiled} {hole next end : ℕ} {made made' made'' : Instr} {before one two three four five after : Compiler} → ExprMade tree pos e before one → made ≡ plain_record Op.LoopStart start → Pushed made one two → made' ≡ jump_record Op.LoopNext hole → next ≡ two.len → Pushed made' two three → ScopeMade tree e.end end three four → made'' ≡ jump_record Op.Jump next → Pushed made'' four five → Patched next five.len five after → LoopMade tree start pos end before after
  unfolding compile_stmt
  loop_arm {e} {hole} {next} {end} {made} {made'} {made''} {before} {one} {two} {three} {four} {five} {after} expr is pushed is' number pushed' scope is'' pushed'' patches = λ w.
      let x = w.there.expr in
      let c = w.there.scope in
      let vars = w.there.vars in
      let m = (expr (block_expr (loop_block w))).0 in
      let s = scope (block_scope (loop_block w) expr) in
      let size = length-append (pack_expr x) (pack c) in
      let ends = m.ends in
      let ends' = s.ends in
      let expr_counts = made_counts m.made in
      let start_counts = pushed.counts in
      let next_counts = pushed'.counts in
      let scope_counts = made_counts s.made in
      let back_counts = pushed''.counts in
      let counted = count_is_length c three.len in
      let at_next : next ≡ before.len + expr_count x + 1 = omega arith in
      let at_body : three.len ≡ before.len + expr_count x + 1 + 1 = omega arith in
      let at_end : five.len ≡ before.len + expr_count x + 1 + 1 + count c + 1 = omega arith in
      let back = made_one (jump_record Op.Jump next) (program.Jump next) refl is'' pushed'' in
      let turn = made_jump (jump_record Op.LoopNext hole) (program.LoopNext five.len) refl is' pushed' (made_on s.made back) number patches in
      let begun = made_one _ (program.LoopStart vars (expr_span x)) (loop_means w.source tree w.short start vars x c w.there.fits w.there.whole) is pushed in
      rw (← at_end, ← at_body, ← at_next) (record { made = made_on m.made (made_on begun turn); ends = omega arith })

  -- the two kinds of loop
  abbrev pub item_loop : {command : StmtCommand} {s : Span} → command ≡ StmtCommand.ForItem s → StmtOverHere tree start pos command → Over (λ t. LoopOver t tree start pos)
  item_loop {command} {s} told w =
      let p = parts_of told w in
      let f = fits_as w _ p.2 in
      record { source = w.source; short = w.short; there = record { vars = Item s; expr = p.0; scope = p.1; fits = f.0; along = w.there.along; whole = f.1; stands = p.4.2 } }

  abbrev pub pair_loop : {command : StmtCommand} {k v both : Span} → command ≡ StmtCommand.ForPair k v both → StmtOverHere tree start pos command → Over (λ t. LoopOver t tree start pos)
  pair_loop {command} {k} {v} {both} told w =
      let p = parts_of told w in
      let f = fits_as w _ p.2 in
      record { source = w.source; short = w.short; there = record { vars = KeyValue k v both; expr = p.0; scope = p.1; fits = f.0; along = w.there.along; whole = f.1; stands = p.6.2 } }

  module _ {end : ℕ} {before after : Compiler} (loop : LoopMade tree start pos end before after) where
    pub item_arm : {command : StmtCommand} {s : Span} → command ≡ StmtCommand.ForItem s → StmtMade tree start pos (stmt_of command) end before after
    item_arm told = λ w. same_stmt w _ (parts_of told w).2 (loop (item_loop told w))

    pub pair_arm : {command : StmtCommand} {k v both : Span} → command ≡ StmtCommand.ForPair k v both → StmtMade tree start pos (stmt_of command) end before after
    pair_arm told = λ w. same_stmt w _ (parts_of told w).2 (loop (pair_loop told w))
