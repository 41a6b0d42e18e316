-- That a statement is its head and then the rest, and a scope its statements one after another.
use Rattle.std.proofs.Common.{◌≡◌, ℕ, suc, ◌-◌, ◌≤◌, Bool, List, [], ◌∷◌, length, drop, sym, refl, ap, ◌∙◌, arith, length-drop}
use Rattle.meaning.specs.Tree.{Expr, Stmt, Scope, Inline, IncludeWith, If, IfElse, For, Item, KeyValue, With, ◌then◌}
use Rattle.packing.specs.Reader.{Outcome, read, refused, Reader, ensure, flag, command}
use Rattle.meaning.specs.Step.{return, continue, ◌>>=◌, ◌>>◌}
use Rattle.meaning.specs.declared.fault.Cause.{Cause}
use Rattle.meaning.specs.Or.{gives, fails}
use Rattle.meaning.specs.declared.fault.Cause.TheVariants.{TooDeep}
use Rattle.packing.specs.Unpacking.{placed, span, string_of, whole_expr, stmt_of, scope_of, statements, scope_within, room_at, block_at}
use Rattle.packing.specs.Commands.{StmtByte, raw_byte, inline_byte, include_byte, include_with_byte, if_byte, if_else_byte, for_item_byte, for_pair_byte, with_byte, ScopeByte, stmt, end_byte, scope_code, scope_bytes}
use Rattle.packing.proofs.Scopes.{bound_is_enough}
use Rattle.reader.specs.Fields.{ended}
use Rattle.reader.specs.Heads.{StmtHead, ScopeHead, StmtOf, EndHead, stmt_fields, scope_fields, scope_head, stmt_spans, scope_spans}
use Rattle.checker.specs.Rests.{passing, stmt_rest}
use Rattle.reader.specs.Verdicts.{well_placed}
use Rattle.reader.proofs.Members.{ended_made}
use Rattle.checker.proofs.Rests.{step, nest, regroup, placed_first}

-- ONE AFTER ANOTHER

pointwise : {A B : Type 0} (o : Outcome A) (f g : A → Reader B) → ((a : A) (s : List ℕ) → f a s ≡ g a s) → continue o f ≡ continue o g
pointwise (gives (a, s)) f g same = same a s
pointwise (fails (cause, left)) f g same = refl

then_passing : {A B : Type 0} (o : Outcome A) (f : A → Reader B) (g : Reader (Unit {0})) → ((a : A) (s : List ℕ) → ended (f a s) ≡ g s) → ended (continue o f) ≡ continue (ended o) (λ _. g)
then_passing (gives (a, s)) f g same = same a s
then_passing (fails (cause, left)) f g same = refl

module _ (source : List ℕ) (at : ℕ) (room : Bool) (block : Reader Scope) where
  abbrev stmt_guard : StmtHead → Reader (Unit {0})
  stmt_guard h = placed source (stmt_spans h) at >> stmt_rest source at room block h

  -- an expression and a block, whatever is made of them
  with_block : (make : Expr → Scope → Stmt) (t : List ℕ) → ended ((ensure room TooDeep at >> (whole_expr source >>= λ e. block >>= λ c. return (make e c))) t) ≡ continue (ensure room TooDeep at t) (λ _. passing (whole_expr source >>= λ e. block))
  with_block make t =
      step (ensure room TooDeep at t) _ _ (λ _ t₁.
      step (whole_expr source t₁) _ _ (λ e t₂. ended_made (block t₂) (make e))
      ∙ sym (step (whole_expr source t₁) _ _ (λ e t₂. refl)))

  stmt_splits : (k : StmtByte) (s : List ℕ) → ended (stmt_of source at room block k s) ≡ continue (stmt_fields at k s) stmt_guard
  unfolding stmt_of stmt_fields
  stmt_splits raw_byte s = nest (span at s) _ _ stmt_guard (λ p t. step (placed source (p ∷ []) at t) _ _ (λ _ t₁. refl))
  stmt_splits inline_byte s = ended_made (whole_expr source s) Inline
  stmt_splits include_byte s = nest (string_of at s) _ _ stmt_guard (λ k t. step (placed source (k.span ∷ []) at t) _ _ (λ _ t₁. refl))
  stmt_splits include_with_byte s =
      nest (string_of at s) _ _ stmt_guard (λ k t.
      step (placed source (k.span ∷ []) at t) _ _ (λ _ t₁. ended_made (whole_expr source t₁) (IncludeWith k)))
  stmt_splits if_byte s = nest (flag at s) _ _ stmt_guard (λ f t. with_block (If f) t)
  stmt_splits if_else_byte s =
      nest (flag at s) _ _ stmt_guard (λ f t.
      step (ensure room TooDeep at t) _ _ (λ _ t₁.
      step (whole_expr source t₁) _ _ (λ e t₂. step (block t₂) _ _ (λ c t₃. ended_made (block t₃) (IfElse f e c)))
      ∙ sym (step (whole_expr source t₁) _ _ (λ e t₂. step (block t₂) _ _ (λ c t₃. refl)))))
  stmt_splits for_item_byte s =
      nest (span at s) _ _ stmt_guard (λ p t. step (placed source (p ∷ []) at t) _ _ (λ _ t₁. with_block (For (Item p)) t₁))
  stmt_splits for_pair_byte s =
      nest (span at s) _ _ stmt_guard (λ k t.
      nest (span at t) _ _ stmt_guard (λ v t₁.
      nest (span at t₁) _ _ stmt_guard (λ both t₂.
      step (placed source (k ∷ v ∷ both ∷ []) at t₂) _ _ (λ _ t₃. with_block (For (KeyValue k v both)) t₃))))
  stmt_splits with_byte s =
      nest (span at s) _ _ stmt_guard (λ p t. step (placed source (p ∷ []) at t) _ _ (λ _ t₁. with_block (With p) t₁))

  module _ (rest : Reader Scope) where
    abbrev scope_rest : ScopeHead → Reader (Unit {0})
    scope_rest EndHead = return tt
    scope_rest (StmtOf h) = stmt_rest source at room block h >> passing rest

    abbrev scope_guard : ScopeHead → Reader (Unit {0})
    scope_guard h = placed source (scope_spans h) at >> scope_rest h

    scope_splits : (k : ScopeByte) (s : List ℕ) → ended (scope_of source at room block rest k s) ≡ continue (scope_fields at k s) scope_guard
    unfolding scope_fields
    scope_splits end_byte s = refl
    scope_splits (stmt k) s =
        then_passing (stmt_of source at room block k s) _ (passing rest) (λ st t. ended_made (rest t) (λ c. st then c))
        ∙ ap (λ (o : Outcome (Unit {0})). continue o (λ _. passing rest)) (stmt_splits k s)
        ∙ regroup (stmt_fields at k s) stmt_guard (λ _. passing rest)
        ∙ pointwise (stmt_fields at k s) _ _ (λ h t. regroup (placed source (stmt_spans h) at t) (λ _. stmt_rest source at room block h) (λ _. passing rest))
        ∙ sym (regroup (stmt_fields at k s) (λ h. return (StmtOf h)) scope_guard)

-- SCOPES

module _ (source : List ℕ) (levels : ℕ) where
  abbrev rest_after : ℕ → Reader Scope
  rest_after most = statements source most (room_at levels) (block_at source levels)

  scope_levels : (s : List ℕ) → ended (scope_within source levels s) ≡ continue (well_placed source scope_spans scope_head s) (scope_rest source (length s) (room_at levels) (block_at source levels) (rest_after (length s)))
  unfolding statements scope_head
  scope_levels s =
      ap ended (sym (bound_is_enough source levels (suc (length s)) s (omega arith)))
      ∙ nest (command scope_code scope_bytes (length s) s) _ (scope_fields (length s)) _ (λ k t. scope_splits source (length s) (room_at levels) (block_at source levels) (rest_after (length s)) k t)
      ∙ sym (placed_first source (length s) scope_spans (scope_head (length s) s) _)

  module _ (tree : List ℕ) (pos : ℕ) where
    pub scope_refused : (cause : Cause) (left : ℕ) → refused cause left ≡ well_placed source scope_spans scope_head (drop pos tree) → refused cause left ≡ ended (scope_within source levels (drop pos tree))
    scope_refused cause left e = sym (scope_levels (drop pos tree) ∙ rw (sym e))

    pub scope_ends : (u : List ℕ) → read EndHead u ≡ well_placed source scope_spans scope_head (drop pos tree) → read tt u ≡ ended (scope_within source levels (drop pos tree))
    scope_ends u e = sym (scope_levels (drop pos tree) ∙ rw (sym e))

    module _ (h : StmtHead) (u : List ℕ) (e : read (StmtOf h) u ≡ well_placed source scope_spans scope_head (drop pos tree)) where
      pub scope_stops : (cause : Cause) (left : ℕ) → refused cause left ≡ stmt_rest source (length tree - pos) (room_at levels) (block_at source levels) h u → refused cause left ≡ ended (scope_within source levels (drop pos tree))
      scope_stops cause left f = sym (scope_levels (drop pos tree) ∙ rw (sym e, length-drop pos tree, sym f))

      pub scope_steps : (next : ℕ) → read tt (drop next tree) ≡ stmt_rest source (length tree - pos) (room_at levels) (block_at source levels) h u → pos ≤ next → ended (scope_within source levels (drop next tree)) ≡ ended (scope_within source levels (drop pos tree))
      scope_steps next f further =
          let size : length (drop next tree) ≡ length tree - next = length-drop next tree in
          ap ended (sym (bound_is_enough source levels (length tree - pos) (drop next tree) (omega arith)))
          ∙ sym (scope_levels (drop pos tree) ∙ rw (sym e, length-drop pos tree, sym f))

-- the cases of a step over a scope
pub ruleset scope_cases = (scope_refused, scope_ends, scope_stops, scope_steps)
