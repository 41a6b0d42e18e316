-- Parts in a row, as far as they are compiled: with what is left they give the whole.
use Rattle.std.proofs.Common.{◌≡◌, ℕ, suc, ◌+◌, ◌-◌, ◌<◌, ◌≤◌, List, [], ◌∷◌, ◌++◌, length, Some, None, sym, refl, ap, ◌∙◌, subst, append_assoc, append-nil, arith, length-append}
use Rattle.meaning.specs.Tree.{BaseExpr, Args, Pairs, no_args, arg, no_pairs, pair, count_args, count_pairs, Stmt, Scope, done, ◌then◌}
use Rattle.packing.specs.Limits.{ArgsFit, PairsFit, ScopeFits}
use Rattle.packing.specs.Packing.{pack_string, pack_base, pack_args, pack_pairs, pack, pack_stmt}
use Rattle.packing.specs.Unpacking.{string_of}
use Rattle.program.specs.Program.{compile_base, compile_args, compile_items, compile_pairs, compile_stmt, compile_scope, stmt_count, ExprListPush, ExprMapInsert}
use Rattle.program.specs.Program as program
use Rattle.program.proofs.Laws.{stmt_length}
use Rattle.reader.specs.declared.command.ScopeCommand.{ScopeCommand}
use Rattle.reader.specs.declared.command.StmtCommand.{StmtCommand}
use Rattle.reader.specs.declared.field.PackedText.{PackedText}
use Rattle.reader.specs.Fields.{Takes, text_of}
use Rattle.reader.specs.Heads.{StmtOf, EndHead, scope_head}
use Rattle.reader.specs.Meanings.{stmt_of, scope_of}
use Rattle.checker.specs.There.{Stands, BaseThere, ArgsThere, PairsThere, ScopeThere}
use Rattle.checker.specs.TreeHeads.{scope_behind, scope_head_of, stmt_behind}
use Rattle.checker.proofs.Parts.{ScopeParts, scope_parts}
use Rattle.checker.proofs.There.{Headed, first_part}
use Rattle.checker.proofs.Walking.{ArgsParts, PairsParts, args_parts, pairs_parts, string_known, string_headed, scope_known, scope_headed}
use Rattle.compiler.specs.declared.instr.Instr.{Instr}
use Rattle.compiler.specs.declared.instr.Op.{Op}
use Rattle.compiler.specs.declared.compile.Compiled.{Compiled}
use Rattle.compiler.specs.declared.writing.Compiler.{Compiler}
use Rattle.compiler.specs.Making.{plain_record}
use Rattle.compiler.specs.Writing.{Pushed}
use Rattle.compiler.specs.Compiled.{Made, PartMade, Over, StmtOver, BaseMade, StmtMade}
use Rattle.compiler.proofs.Means.{made_counts, made_none, made_one, made_on}
use Rattle.compiler.proofs.Operands.{string_means}

-- what is compiled, and with the rest gives all
pub record CodeLeft (tree : List ℕ) (all rest : List program.Instr) (before now : Compiler) : Type 0 where
  pub done : List program.Instr
  pub made : Made tree done before now
  pub gives : done ++ rest ≡ all

module _ {tree : List ℕ} {all : List program.Instr} {before : Compiler} where
  code_start : CodeLeft tree all all before before
  code_start = record { done = []; made = made_none; gives = refl }

  code_more : {rest : List program.Instr} (step : List program.Instr) {now later : Compiler} → CodeLeft tree all (step ++ rest) before now → Made tree step now later → CodeLeft tree all rest before later
  code_more {rest} step l m = record { done = l.done ++ step; made = made_on l.made m; gives = append_assoc l.done step rest ∙ l.gives }

  code_all : {now : Compiler} → CodeLeft tree all [] before now → Made tree all before now
  code_all {now} l = subst (λ (code : List program.Instr). Made tree code before now) (sym (append-nil l.done) ∙ l.gives) l.made

-- ARGUMENTS AND ITEMS

module _ {tree : List ℕ} {count pos : ℕ} where
  -- behind the first `i` of them
  pub record ArgsLeft (code : Args → List program.Instr) (w : Over (λ s. ArgsThere s tree count pos)) (before : Compiler) (i at : ℕ) (now : Compiler) : Type 0 where
    pub rest : Args
    pub counted : i + count_args rest ≡ count
    pub fits : ArgsFit w.source rest
    pub stands : Stands tree at (pack_args rest)
    pub ends : at + length (pack_args rest) ≡ pos + length (pack_args w.there.args)
    pub compiled : CodeLeft tree (code w.there.args) (code rest) before now

  module _ (code : Args → List program.Instr) (w : Over (λ s. ArgsThere s tree count pos)) {before : Compiler} where
    pub args_start : ArgsLeft code w before 0 pos before
    args_start = let counted = w.there.counted in record { rest = w.there.args; counted = omega arith; fits = w.there.fits; stands = w.there.stands; ends = refl; compiled = code_start }

    module _ {i at : ℕ} {now : Compiler} (l : ArgsLeft code w before i at now) where
      abbrev args_next : i < count → ArgsParts w.source tree at l.rest (count - (i + 1))
      args_next more =
          let counted = l.counted in
          let one : count_args l.rest ≡ suc (count - (i + 1)) = omega arith in
          args_parts w.source tree at l.rest (count - (i + 1)) one l.fits l.stands

      -- the next of them
      abbrev pub arg_over : i < count → Over (λ s. BaseThere s tree at)
      arg_over more = let p = args_next more in record { source = w.source; short = w.short; there = record { base = p.0; fits = p.4; stands = p.6.0 } }

      -- one more
      pub args_more : (piece : BaseExpr → List program.Instr) → ((b : BaseExpr) (bs : Args) → code (arg b bs) ≡ piece b ++ code bs) → (more : i < count) {end : ℕ} {later : Compiler} → end ≡ at + length (pack_base (arg_over more).there.base) → Made tree (piece (arg_over more).there.base) now later → ArgsLeft code w before (i + 1) end later
      unfolding pack_args
      args_more piece law more moved m =
          let p = args_next more in
          let size : length (pack_args l.rest) ≡ length (pack_base p.0) + length (pack_args p.1) = ap (λ x. length (pack_args x)) p.2 ∙ length-append (pack_base p.0) (pack_args p.1) in
          let ends = l.ends in
          let counted = p.3 in
          record {
            rest = p.1;
            counted = omega arith;
            fits = p.5;
            stands = subst (λ k. Stands tree k (pack_args p.1)) (sym moved) p.6.1;
            ends = omega arith;
            compiled = code_more (piece p.0) (subst (λ (c : List program.Instr). CodeLeft tree (code w.there.args) c before now) (ap code p.2 ∙ law p.0 p.1) l.compiled) m;
          }

      -- none is left
      pub args_all : code no_args ≡ [] → count ≤ i → PartMade tree (code w.there.args) (pos + length (pack_args w.there.args)) at before now
      unfolding pack_args
      args_all nothing none = by l.rest l.counted l.ends l.compiled
        where
          by : (rest : Args) → i + count_args rest ≡ count → at + length (pack_args rest) ≡ pos + length (pack_args w.there.args) → CodeLeft tree (code w.there.args) (code rest) before now → PartMade tree (code w.there.args) (pos + length (pack_args w.there.args)) at before now
          by no_args counted ends compiled = record { made = code_all (subst (λ (c : List program.Instr). CodeLeft tree (code w.there.args) c before now) nothing compiled); ends = omega arith }
          by (arg b bs) counted ends compiled = absurd (omega arith)

  -- PAIRS

  pub record PairsLeft (w : Over (λ s. PairsThere s tree count pos)) (before : Compiler) (i at : ℕ) (now : Compiler) : Type 0 where
    pub rest : Pairs
    pub counted : i + count_pairs rest ≡ count
    pub fits : PairsFit w.source rest
    pub stands : Stands tree at (pack_pairs rest)
    pub ends : at + length (pack_pairs rest) ≡ pos + length (pack_pairs w.there.pairs)
    pub compiled : CodeLeft tree (compile_pairs w.there.pairs) (compile_pairs rest) before now

  module _ (w : Over (λ s. PairsThere s tree count pos)) {before : Compiler} where
    pub pairs_start : PairsLeft w before 0 pos before
    pairs_start = let counted = w.there.counted in record { rest = w.there.pairs; counted = omega arith; fits = w.there.fits; stands = w.there.stands; ends = refl; compiled = code_start }

    module _ {i at : ℕ} {now : Compiler} (l : PairsLeft w before i at now) where
      abbrev pairs_next : i < count → PairsParts w.source tree at l.rest (count - (i + 1))
      pairs_next more =
          let counted = l.counted in
          let one : count_pairs l.rest ≡ suc (count - (i + 1)) = omega arith in
          pairs_parts w.source tree at l.rest (count - (i + 1)) one l.fits l.stands

      -- its key is read
      pub key_known : i < count → Takes text_of tree at string_of None → ⊥
      key_known more takes = let p = pairs_next more in string_known w.source tree at w.short p.0 p.5 p.8 takes

      module _ (more : i < count) (key : PackedText) {behind : ℕ} (inside : behind ≤ length tree) (takes : Takes text_of tree at string_of (Some (key, behind))) where
        pub key_ends : behind ≡ at + length (pack_string (pairs_next more).0)
        key_ends =
            let p = pairs_next more in
            let ends = (string_headed w.source tree at w.short p.0 p.5 p.8 key behind inside takes).ends in
            omega arith

        -- its value
        abbrev pub pair_over : Over (λ s. BaseThere s tree behind)
        pair_over =
            let p = pairs_next more in
            record { source = w.source; short = w.short; there = record { base = p.1; fits = p.6; stands = subst (λ k. Stands tree k (pack_base p.1)) (sym key_ends) p.9.0 } }

        -- one more
        pub pairs_more : {r : Compiled} {between later : Compiler} {made : Instr} → BaseMade tree behind r now between → made ≡ plain_record Op.ExprMapInsert at → Pushed made between later → PairsLeft w before (i + 1) r.end later
        unfolding pack_pairs compile_pairs
        pairs_more {r} value is pushed =
            let p = pairs_next more in
            let v = (value pair_over).0 in
            let size : length (pack_pairs l.rest) ≡ length (pack_string p.0) + (length (pack_base p.1) + length (pack_pairs p.2)) =
            ap (λ x. length (pack_pairs x)) p.3 ∙ length-append (pack_string p.0) (pack_base p.1 ++ pack_pairs p.2) ∙ ap (λ n. length (pack_string p.0) + n) (length-append (pack_base p.1) (pack_pairs p.2)) in
            let ends = l.ends in
            let counted = p.4 in
            let key = key_ends in
            let there = v.ends in
            let moved : r.end ≡ at + length (pack_string p.0) + length (pack_base p.1) = omega arith in
            let inserted = made_one (plain_record Op.ExprMapInsert at) (ExprMapInsert p.0) (string_means w.source tree w.short at ExprMapInsert p.0 p.5 p.8) is pushed in
            record {
              rest = p.2;
              counted = omega arith;
              fits = p.7;
              stands = subst (λ k. Stands tree k (pack_pairs p.2)) (sym moved) p.9.1;
              ends = omega arith;
              compiled = code_more (compile_base p.1 ++ (ExprMapInsert p.0 ∷ [])) (subst (λ (c : List program.Instr). CodeLeft tree (compile_pairs w.there.pairs) c before now) (ap compile_pairs p.3 ∙ sym (append_assoc (compile_base p.1) (ExprMapInsert p.0 ∷ []) (compile_pairs p.2))) l.compiled) (made_on v.made inserted);
            }

      pub pairs_all : count ≤ i → PartMade tree (compile_pairs w.there.pairs) (pos + length (pack_pairs w.there.pairs)) at before now
      unfolding pack_pairs compile_pairs
      pairs_all none = by l.rest l.counted l.ends l.compiled
        where
          by : (rest : Pairs) → i + count_pairs rest ≡ count → at + length (pack_pairs rest) ≡ pos + length (pack_pairs w.there.pairs) → CodeLeft tree (compile_pairs w.there.pairs) (compile_pairs rest) before now → PartMade tree (compile_pairs w.there.pairs) (pos + length (pack_pairs w.there.pairs)) at before now
          by no_pairs counted ends compiled = record { made = code_all compiled; ends = omega arith }
          by (pair k b ps) counted ends compiled = absurd (omega arith)

-- STATEMENTS

pub pack_then : (s : Stmt) (rest : Scope) → pack (s then rest) ≡ pack_stmt s ++ pack rest
unfolding pack
pack_then s rest = refl

module _ {tree : List ℕ} {pos : ℕ} where
  pub record ScopeLeft (w : Over (λ s. ScopeThere s tree pos)) (before : Compiler) (at : ℕ) (now : Compiler) : Type 0 where
    pub rest : Scope
    pub fits : ScopeFits w.source rest
    pub stands : Stands tree at (pack rest)
    pub ends : at + length (pack rest) ≡ pos + length (pack w.there.scope)
    pub compiled : CodeLeft tree (compile_scope w.there.scope before.len) (compile_scope rest now.len) before now

  module _ (w : Over (λ s. ScopeThere s tree pos)) {before : Compiler} where
    pub scope_start : ScopeLeft w before pos before
    scope_start = record { rest = w.there.scope; fits = w.there.fits; stands = w.there.stands; ends = refl; compiled = code_start }

    module _ {at : ℕ} {now : Compiler} (l : ScopeLeft w before at now) where
      abbrev here : ScopeThere w.source tree at
      here = record { scope = l.rest; fits = l.fits; stands = l.stands }

      pub scope_due : Takes scope_of tree at scope_head None → ⊥
      scope_due takes = scope_known w.source tree at w.short here takes

      module _ (command : ScopeCommand) {next : ℕ} (moves : (at < next) × (next ≤ length tree)) (takes : Takes scope_of tree at scope_head (Some (command, next))) where
        abbrev headed : Headed scope_of tree (scope_behind l.rest) (at + length (pack l.rest)) (scope_head_of l.rest) command next
        headed = scope_headed w.source tree at w.short here command next moves.1 takes

        -- the end
        pub scope_all : command ≡ ScopeCommand.End → PartMade tree (compile_scope w.there.scope before.len) (pos + length (pack w.there.scope)) next before now
        unfolding compile_scope
        scope_all told =
            let h = headed in
            let is : l.rest ≡ done = scope_parts w.source tree next l.rest EndHead (sym h.head ∙ ap scope_of told) l.fits h.stands in
            let ends = l.ends in
            let ends' = h.ends in
            let nothing : length (scope_behind l.rest) ≡ 0 = ap (λ x. length (scope_behind x)) is in
            record {
              made = code_all (subst (λ (c : List program.Instr). CodeLeft tree (compile_scope w.there.scope before.len) c before now) (ap (λ x. compile_scope x now.len) is) l.compiled);
              ends = omega arith;
            }

        module _ {stmt : StmtCommand} (told : command ≡ ScopeCommand.Stmt stmt) where
          abbrev parts : ScopeParts w.source tree next l.rest (StmtOf (stmt_of stmt))
          parts = let h = headed in scope_parts w.source tree next l.rest (StmtOf (stmt_of stmt)) (sym h.head ∙ ap scope_of told) l.fits h.stands

          -- one statement
          abbrev pub stmt_over : Over (λ s. StmtOver s tree at (stmt_of stmt) next)
          stmt_over =
              let p = parts in
              let h = headed in
              let behind = h.ends in
              let along = moves.0 in
              let size : length (scope_behind l.rest) ≡ length (stmt_behind p.0) + length (pack p.1) = ap (λ x. length (scope_behind x)) p.2 ∙ length-append (stmt_behind p.0) (pack p.1) in
              let is : pack l.rest ≡ pack_stmt p.0 ++ pack p.1 = ap pack p.2 ∙ pack_then p.0 p.1 in
              let size' : length (pack l.rest) ≡ length (pack_stmt p.0) + length (pack p.1) = ap length is ∙ length-append (pack_stmt p.0) (pack p.1) in
              record {
                source = w.source;
                short = w.short;
                there = record { stmt = p.0; headed = p.3; fits = p.4; along = along; whole = first_part tree at (pack_stmt p.0) (pack p.1) (subst (Stands tree at) is l.stands); stands = p.6.0; ends = omega arith };
              }

          -- one statement more
          pub scope_more : {end : ℕ} {later : Compiler} → StmtMade tree at next (stmt_of stmt) end now later → ScopeLeft w before end later
          unfolding compile_scope
          scope_more {end} {later} made =
              let m = made stmt_over in
              let p = parts in
              let h = headed in
              let behind = h.ends in
              let size : length (scope_behind l.rest) ≡ length (stmt_behind p.0) + length (pack p.1) = ap (λ x. length (scope_behind x)) p.2 ∙ length-append (stmt_behind p.0) (pack p.1) in
              let ends = l.ends in
              let moved = m.ends in
              let counts : later.len ≡ now.len + stmt_count p.0 = made_counts m.made ∙ ap (λ n. now.len + n) (stmt_length p.0 now.len) in
              record {
                rest = p.1;
                fits = p.5;
                stands = subst (λ k. Stands tree k (pack p.1)) (sym moved) p.6.1;
                ends = omega arith;
                compiled = code_more (compile_stmt p.0 now.len) (subst (λ (c : List program.Instr). CodeLeft tree (compile_scope w.there.scope before.len) c before now) (ap (λ x. compile_scope x now.len) p.2 ∙ ap (λ n. compile_stmt p.0 now.len ++ compile_scope p.1 n) (sym counts)) l.compiled) m.made;
              }
