-- How an expression that is compiled is emitted.
use Rattle.std.proofs.Common.{◌≡◌, ℕ, suc, true, false, List, [], ◌∷◌, ◌++◌, drop, sym, refl, ap, subst, append_assoc}
use mathlib.Core.Option.{Option, none, some}
use borrow.Author.Tests.{clash}
use Rattle.meaning.specs.Or.{fails, gives}
use Rattle.meaning.specs.declared.tree.Span.{Span}
use Rattle.meaning.specs.Tree.{LoopVars, Expr, BaseExpr, Base, Filter, Variable, Literal, ListOf, MapOf, Paren, Call, count_args}
use Rattle.packing.specs.Reader.{Outcome}
use Rattle.packing.specs.Unpacking.{span, string_of, variable}
use Rattle.reader.specs.AfterByte.{plain_head}
use Rattle.reader.specs.Heads.{expr_head, scope_head}
use Rattle.program.specs.Program.{compile_expr, compile_base, compile_args, emit_expr, emit_base, Apply, EmitWith, Emit}
use Rattle.program.specs.Program as program
use Rattle.compiler.specs.declared.instr.Instr.{Instr}
use Rattle.compiler.specs.declared.instr.Op.{Op}
use Rattle.compiler.specs.Records.{instr_of, meant, from_read, both, head_span, loop_names, Mean}
use Rattle.compiler.specs.Compiled.{applies, base_applies, Made}
use Rattle.compiler.specs.declared.writing.Compiler.{Compiler}
use Rattle.compiler.specs.Writing.{Wrote, Emitting, emitting}
use Rattle.compiler.proofs.Writes.{wrote_last}
use Rattle.compiler.proofs.Means.{mean_append}

-- the last instruction is an `Apply`, and is emitted as `EmitWith`
pub record Applied (code emitted : List program.Instr) : Type 0 where
  pub front : List program.Instr
  pub name : Span
  pub count : ℕ
  pub whole : Span
  pub applied : code ≡ front ++ (Apply name count whole ∷ [])
  pub emits : emitted ≡ front ++ (EmitWith name count whole ∷ [])

mutual
  unfolding compile_expr emit_expr

  pub applied_expr : (e : Expr) → applies e ≡ true → Applied (compile_expr e) (emit_expr e)
  applied_expr (Base b) t = applied_base b t
  applied_expr (Filter name whole receiver args) t = record {
    front = compile_expr receiver ++ compile_args args;
    name = name;
    count = suc (count_args args);
    whole = whole;
    applied = sym (append_assoc (compile_expr receiver) (compile_args args) (Apply name (suc (count_args args)) whole ∷ []));
    emits = sym (append_assoc (compile_expr receiver) (compile_args args) (EmitWith name (suc (count_args args)) whole ∷ []));
  }

  applied_base : (b : BaseExpr) → base_applies b ≡ true → Applied (compile_base b) (emit_base b)
  applied_base (Variable v) t = absurd (clash t)
  applied_base (Literal s v) t = absurd (clash t)
  applied_base (ListOf s args) t = absurd (clash t)
  applied_base (MapOf s pairs) t = absurd (clash t)
  applied_base (Paren s e) t = applied_expr e t
  applied_base (Call name whole args) t = record { front = compile_args args; name = name; count = count_args args; whole = whole; applied = refl; emits = refl }

mutual
  unfolding compile_expr emit_expr

  pub plain_expr : (e : Expr) → applies e ≡ false → emit_expr e ≡ compile_expr e ++ (Emit ∷ [])
  plain_expr (Base b) t = plain_base b t
  plain_expr (Filter name whole receiver args) t = absurd (clash (sym t))

  plain_base : (b : BaseExpr) → base_applies b ≡ false → emit_base b ≡ compile_base b ++ (Emit ∷ [])
  plain_base (Variable v) t = refl
  plain_base (Literal s v) t = refl
  plain_base (ListOf s args) t = refl
  plain_base (MapOf s pairs) t = refl
  plain_base (Paren s e) t = plain_expr e t
  plain_base (Call name whole args) t = absurd (clash (sym t))

-- WHICH RECORDS MEAN AN `Apply`

-- what is made of an operand is something else, or there is none
read_other : {A B : Type 0} (o : Outcome A) (f : A → List ℕ → Option B) {x : B} → ((a : A) (s : List ℕ) → f a s ≡ some x → ⊥) → from_read o f ≡ some x → ⊥
read_other (gives (a, s)) f other e = other a s e
read_other (fails x) f other e = cc

module _ (tree : List ℕ) (s : Span) (n : ℕ) (w : Span) where
  loop_other : (v : Option LoopVars) (p : Option Span) → both v p program.LoopStart ≡ some (Apply s n w) → ⊥
  loop_other none p e = cc
  loop_other (some v) none e = cc
  loop_other (some v) (some p) e = cc

  -- an `Apply`'s operands are an `EmitWith`'s
  whole_emits : (name : Span) (arity : ℕ) (o : Outcome Span) → from_read o (λ whole t. some (Apply name arity whole)) ≡ some (Apply s n w) → from_read o (λ whole t. some (EmitWith name arity whole)) ≡ some (EmitWith s n w)
  whole_emits name arity (gives (whole, t)) e = cc
  whole_emits name arity (fails x) e = cc

  callee_emits : (arity : ℕ) (o : Outcome Span) → from_read o (λ name t. from_read (span 0 t) (λ whole u. some (Apply name arity whole))) ≡ some (Apply s n w) → from_read o (λ name t. from_read (span 0 t) (λ whole u. some (EmitWith name arity whole))) ≡ some (EmitWith s n w)
  callee_emits arity (gives (name, t)) e = whole_emits name arity (span 0 t) e
  callee_emits arity (fails x) e = cc

  -- a record that means an `Apply`, turned into an `EmitWith`, means that
  pub emitting_means : (i : Instr) → instr_of tree i ≡ some (Apply s n w) → instr_of tree (emitting i) ≡ some (EmitWith s n w)
  emitting_means i means = by i.op i.at i.arity i.target means
    where
      by : (op : Op) (at arity target : ℕ) → meant tree op at arity target ≡ some (Apply s n w) → meant tree Op.EmitWith at arity target ≡ some (EmitWith s n w)
      by Op.Apply at arity target e = callee_emits arity (span 0 (drop at tree)) e
      by Op.Jump at arity target e = cc
      by Op.JumpIfTrue at arity target e = cc
      by Op.JumpIfFalse at arity target e = cc
      by Op.Emit at arity target e = cc
      by Op.EmitRaw at arity target e = absurd (read_other (span 0 (drop at tree)) _ (λ a t e. cc) e)
      by Op.EmitWith at arity target e = absurd (read_other (span 0 (drop at tree)) _ (λ a t e. read_other (span 0 t) _ (λ b u e. cc) e) e)
      by Op.LoopStart at arity target e = absurd (read_other (scope_head 0 (drop at tree)) _ (λ h t e. read_other (expr_head 0 t) _ (λ x u e. loop_other (loop_names h) (head_span x) e) e) e)
      by Op.LoopNext at arity target e = cc
      by Op.WithStart at arity target e = absurd (read_other (span 0 (drop at tree)) _ (λ a t e. cc) e)
      by Op.WithEnd at arity target e = cc
      by Op.Include at arity target e = absurd (read_other (string_of 0 (drop at tree)) _ (λ a t e. cc) e)
      by Op.IncludeWith at arity target e = absurd (read_other (string_of 0 (drop at tree)) _ (λ a t e. cc) e)
      by Op.ExprStartVar at arity target e = absurd (read_other (variable 0 (drop at tree)) _ (λ a t e. cc) e)
      by Op.ExprStartLiteral at arity target e = absurd (read_other (span 0 (drop at tree)) _ (λ a t e. read_other (plain_head 0 t) _ (λ b u e. cc) e) e)
      by Op.ExprStartList at arity target e = absurd (read_other (span 0 (drop at tree)) _ (λ a t e. cc) e)
      by Op.ExprStartMap at arity target e = absurd (read_other (span 0 (drop at tree)) _ (λ a t e. cc) e)
      by Op.ExprListPush at arity target e = cc
      by Op.ExprMapInsert at arity target e = absurd (read_other (string_of 0 (drop at tree)) _ (λ a t e. cc) e)

-- THE LAST RECORD

pub record LastMean (tree : List ℕ) (records : List Instr) (front : List program.Instr) (x : program.Instr) : Type 0 where
  pub rows : List Instr
  pub last : Instr
  pub split : records ≡ rows ++ (last ∷ [])
  pub mean : Mean tree rows front
  pub means : instr_of tree last ≡ some x

mean_split : (tree : List ℕ) (records : List Instr) (front : List program.Instr) (x : program.Instr) → Mean tree records (front ++ (x ∷ [])) → LastMean tree records front x
mean_split tree [] [] x m = absurd m
mean_split tree [] (y ∷ front) x m = absurd m
mean_split tree (i ∷ []) [] x m = record { rows = []; last = i; split = refl; mean = tt; means = m.0 }
mean_split tree (i ∷ j ∷ is) [] x m = absurd m.1
mean_split tree (i ∷ is) (y ∷ front) x m =
    let l = mean_split tree is front x m.1 in
    record { rows = i ∷ l.rows; last = l.last; split = ap (λ (xs : List Instr). i ∷ xs) l.split; mean = (m.0, l.mean); means = l.means }

-- an applied expression is emitted by the same records, but for the operation of the last
pub made_emitted : {tree : List ℕ} {code emitted : List program.Instr} {before late after : Compiler} → Applied code emitted → Made tree code before late → Emitting late after → Made tree emitted before after
made_emitted {tree} {code} {emitted} {before} {late} {after} a m e =
    let l = mean_split tree m.records a.front (Apply a.name a.count a.whole) (subst (Mean tree m.records) a.applied m.mean) in
    record {
      records = l.rows ++ (emitting l.last ∷ []);
      mean = subst (Mean tree (l.rows ++ (emitting l.last ∷ []))) (sym a.emits)
          (mean_append tree l.rows (emitting l.last ∷ []) a.front (EmitWith a.name a.count a.whole ∷ []) l.mean (emitting_means tree a.name a.count a.whole l.last l.means, tt));
      wrote = wrote_last l.rows l.last (subst (λ (rs : List Instr). Wrote rs before late) l.split m.wrote) e;
    }
