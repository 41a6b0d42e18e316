-- Where the jumps of ifs and loops go.
use Prim.Native.Nat.{ℕ, ◌+◌}
use mathlib.Core.Path.{◌≡◌, refl, sym, ap, ◌∙◌}
use mathlib.Core.List.{List, [], ◌∷◌, ◌++◌, append_assoc}
use native.Mathlib.Omega.{arith}
use lib.ListN.{length, take, drop, length-append}
use lib.Seq.{drop_at}
use Rattle.meaning.specs.Spans.{expr_span}
use Rattle.meaning.specs.Tree.{If}
use Rattle.program.specs.Program.{Instr, Jump, LoopStart, LoopNext, compile_expr, expr_count, stmt_count, count, jump_past, compile_stmt, compile_scope}
use Rattle.program.specs.Laws.{ElseIsReached, IfIsLeft, LoopIsLeft}
use Rattle.program.proofs.Laws.{count_is_length, stmt_length}

-- what stands behind a part of so many instructions
behind : (a b : List Instr) (n : ℕ) → n ≡ length a → drop n (a ++ b) ≡ b
behind a b n is = drop_at a b n (sym is)

pub else_is_reached : ElseIsReached
unfolding compile_stmt
else_is_reached negated e c d at =
    let body = at + expr_count e + 1 in
    let otherwise = body + count c + 1 in
    let end = otherwise + count d in
    let n = expr_count e + 1 + count c + 1 in
    let there : otherwise ≡ at + n = omega arith in
    let before = compile_expr e ++ (jump_past negated otherwise ∷ (compile_scope c body ++ (Jump end ∷ []))) in
    let counted = count_is_length c body in
    let inner = length-append (compile_scope c body) (Jump end ∷ []) in
    let outer = length-append (compile_expr e) (jump_past negated otherwise ∷ (compile_scope c body ++ (Jump end ∷ []))) in
    let size : n ≡ length before = omega arith in
    let split : before ++ compile_scope d otherwise ≡ compile_expr e ++ (jump_past negated otherwise ∷ (compile_scope c body ++ (Jump end ∷ compile_scope d otherwise))) =
    append_assoc (compile_expr e) (jump_past negated otherwise ∷ (compile_scope c body ++ (Jump end ∷ []))) (compile_scope d otherwise)
    ∙ ap (λ (xs : List Instr). compile_expr e ++ (jump_past negated otherwise ∷ xs)) (append_assoc (compile_scope c body) (Jump end ∷ []) (compile_scope d otherwise)) in (
      n,
      ap (take 1) (behind (compile_expr e) _ (expr_count e) refl) ∙ ap (λ t. jump_past negated t ∷ []) there,
      ap (drop n) (sym split) ∙ behind before (compile_scope d otherwise) n size ∙ ap (compile_scope d) there,
    )

pub if_is_left : IfIsLeft
unfolding compile_stmt stmt_count
if_is_left negated e c at =
    let size = stmt_length (If negated e c) at in
    let there : at + expr_count e + 1 + count c ≡ at + length (compile_stmt (If negated e c) at) = omega arith in
    ap (take 1) (behind (compile_expr e) _ (expr_count e) refl) ∙ ap (λ t. jump_past negated t ∷ []) there

pub loop_is_left : LoopIsLeft
unfolding compile_stmt
loop_is_left vars e c at =
    let next = at + expr_count e + 1 in
    let body = next + 1 in
    let end = body + count c + 1 in
    let n = expr_count e + 1 + 1 + count c in
    let there : end ≡ at + (n + 1) = omega arith in
    let here : next ≡ at + (expr_count e + 1) = omega arith in
    let begun = compile_expr e ++ (LoopStart vars (expr_span e) ∷ []) in
    let turn = LoopNext end ∷ (compile_scope c body ++ (Jump next ∷ [])) in
    let before = compile_expr e ++ (LoopStart vars (expr_span e) ∷ LoopNext end ∷ compile_scope c body) in
    let counted = count_is_length c body in
    let begun_size : expr_count e + 1 ≡ length begun = sym (length-append (compile_expr e) (LoopStart vars (expr_span e) ∷ [])) in
    let outer = length-append (compile_expr e) (LoopStart vars (expr_span e) ∷ LoopNext end ∷ compile_scope c body) in
    let size : n ≡ length before = omega arith in (
      n,
      ap (λ (xs : List Instr). take 1 (drop (expr_count e + 1) xs)) (sym (append_assoc (compile_expr e) (LoopStart vars (expr_span e) ∷ []) turn))
          ∙ ap (take 1) (behind begun turn (expr_count e + 1) begun_size)
          ∙ ap (λ t. LoopNext t ∷ []) there,
      ap (drop n) (sym (append_assoc (compile_expr e) (LoopStart vars (expr_span e) ∷ LoopNext end ∷ compile_scope c body) (Jump next ∷ [])))
          ∙ behind before (Jump next ∷ []) n size
          ∙ ap (λ t. Jump t ∷ []) here,
    )
