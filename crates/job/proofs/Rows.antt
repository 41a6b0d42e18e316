-- Parts in a row, as far as they are outlined: what is left gives the whole.
use Rattle.std.proofs.Common.{◌≡◌, ℕ, suc, ◌+◌, ◌≤◌, List, ◌++◌, length, codes, sym, ap, ◌∙◌, subst, append_assoc, append-nil, arith, length-append}
use Rattle.meaning.specs.Bytes.{little_endian}
use Rattle.meaning.specs.Tree.{String, Args, Pairs, no_args, arg, no_pairs, pair, count_args, count_pairs, Stmt, Scope, done, ◌then◌}
use Rattle.packing.specs.Limits.{ArgsFit, PairsFit, ScopeFits}
use Rattle.packing.specs.Packing.{pack_span, pack_text, pack_string, pack_base, pack_args, pack_pairs, pack}
use Rattle.checker.specs.There.{Stands}
use Rattle.checker.specs.TreeHeads.{scope_behind, stmt_behind}
use Rattle.checker.proofs.Walking.{ArgsParts, PairsParts}
use Rattle.job.specs.Lines.{Adds, string_line}
use Rattle.job.specs.Outline.{outline_base, outline_args, outline_pairs, outline_stmt, outline_scope}

pub record ArgsLeft (source tree : List ℕ) (depth : ℕ) (all : Args) (end : ℕ) (before : List ℕ) (left at : ℕ) (now : List ℕ) : Type 0 where
  pub rest : Args
  pub counted : count_args rest ≡ left
  pub fits : ArgsFit source rest
  pub stands : Stands tree at (pack_args rest)
  pub ends : at + length (pack_args rest) ≡ end
  pub text : now ++ outline_args source depth rest ≡ before ++ outline_args source depth all

pub record PairsLeft (source tree : List ℕ) (depth : ℕ) (all : Pairs) (end : ℕ) (before : List ℕ) (left at : ℕ) (now : List ℕ) : Type 0 where
  pub rest : Pairs
  pub counted : count_pairs rest ≡ left
  pub fits : PairsFit source rest
  pub stands : Stands tree at (pack_pairs rest)
  pub ends : at + length (pack_pairs rest) ≡ end
  pub text : now ++ outline_pairs source depth rest ≡ before ++ outline_pairs source depth all

module _ (source tree : List ℕ) (depth end : ℕ) (before : List ℕ) where
  -- one argument more
  pub args_more : (all : Args) (left n at after : ℕ) (now later : List ℕ) → left ≡ suc n → (l : ArgsLeft source tree depth all end before left at now) → (p : ArgsParts source tree at l.rest n) → after ≡ at + length (pack_base p.0) → Adds (outline_base source depth p.0) now later → ArgsLeft source tree depth all end before n after later
  unfolding outline_args pack_args
  args_more all left n at after now later one l p moved adds =
      let b = p.0 in
      let rest = p.1 in
      let is = p.2 in
      let size : length (pack_args l.rest) ≡ length (pack_base b) + length (pack_args rest) = ap (λ x. length (pack_args x)) is ∙ length-append (pack_base b) (pack_args rest) in
      let ends = l.ends in
      record {
        rest = rest;
        counted = p.3;
        fits = p.5;
        stands = subst (λ k. Stands tree k (pack_args rest)) (sym moved) p.6.1;
        ends = omega arith;
        text =
            ap (λ (s : List ℕ). s ++ outline_args source depth rest) adds.is
            ∙ append_assoc now (outline_base source depth b) (outline_args source depth rest)
            ∙ ap (λ x. now ++ outline_args source depth x) (sym is)
            ∙ l.text;
      }

  -- none is left
  pub args_all : (all : Args) (left at : ℕ) (now : List ℕ) → left ≡ 0 → ArgsLeft source tree depth all end before left at now → (at ≡ end) × Adds (outline_args source depth all) before now
  unfolding outline_args pack_args
  args_all all left at now none l = by l.rest (l.counted ∙ none) l.ends l.text
    where
      by : (rest : Args) → count_args rest ≡ 0 → at + length (pack_args rest) ≡ end → now ++ outline_args source depth rest ≡ before ++ outline_args source depth all → (at ≡ end) × Adds (outline_args source depth all) before now
      by no_args counted ends text = (omega arith, record { is = sym (append-nil now) ∙ text })
      by (arg b bs) counted ends text = absurd (omega arith)

  -- one pair more: its key, and then its value
  pub pairs_more : (all : Pairs) (left n at after : ℕ) (now mid later : List ℕ) → left ≡ suc n → (l : PairsLeft source tree depth all end before left at now) → (p : PairsParts source tree at l.rest n) → after ≡ at + length (pack_string p.0) + length (pack_base p.1) → Adds (string_line source depth (codes "key") p.0) now mid → Adds (outline_base source (depth + 1) p.1) mid later → PairsLeft source tree depth all end before n after later
  unfolding outline_args pack_args
  pairs_more all left n at after now mid later one l p moved key value =
      let k = p.0 in
      let b = p.1 in
      let rest = p.2 in
      let is = p.3 in
      let size : length (pack_pairs l.rest) ≡ length (pack_string k) + (length (pack_base b) + length (pack_pairs rest)) =
      ap (λ x. length (pack_pairs x)) is ∙ length-append (pack_string k) (pack_base b ++ pack_pairs rest) ∙ ap (λ n. length (pack_string k) + n) (length-append (pack_base b) (pack_pairs rest)) in
      let ends = l.ends in
      let line = string_line source depth (codes "key") k in
      record {
        rest = rest;
        counted = p.4;
        fits = p.7;
        stands = subst (λ k. Stands tree k (pack_pairs rest)) (sym moved) p.9.1;
        ends = omega arith;
        text =
            ap (λ (s : List ℕ). s ++ outline_pairs source depth rest) (value.is ∙ ap (λ (s : List ℕ). s ++ outline_base source (depth + 1) b) key.is)
            ∙ append_assoc (now ++ line) (outline_base source (depth + 1) b) (outline_pairs source depth rest)
            ∙ append_assoc now line (outline_base source (depth + 1) b ++ outline_pairs source depth rest)
            ∙ ap (λ (s : List ℕ). now ++ s) (sym (append_assoc line (outline_base source (depth + 1) b) (outline_pairs source depth rest)))
            ∙ ap (λ x. now ++ outline_pairs source depth x) (sym is)
            ∙ l.text;
      }

  pub pairs_all : (all : Pairs) (left at : ℕ) (now : List ℕ) → left ≡ 0 → PairsLeft source tree depth all end before left at now → (at ≡ end) × Adds (outline_pairs source depth all) before now
  unfolding outline_pairs pack_pairs
  pairs_all all left at now none l = by l.rest (l.counted ∙ none) l.ends l.text
    where
      by : (rest : Pairs) → count_pairs rest ≡ 0 → at + length (pack_pairs rest) ≡ end → now ++ outline_pairs source depth rest ≡ before ++ outline_pairs source depth all → (at ≡ end) × Adds (outline_pairs source depth all) before now
      by no_pairs counted ends text = (omega arith, record { is = sym (append-nil now) ∙ text })
      by (pair k b ps) counted ends text = absurd (omega arith)

-- STATEMENTS

pub record ScopeLeft (source tree : List ℕ) (depth : ℕ) (all : Scope) (end : ℕ) (before : List ℕ) (at : ℕ) (now : List ℕ) : Type 0 where
  pub rest : Scope
  pub fits : ScopeFits source rest
  pub stands : Stands tree at (pack rest)
  pub ends : at + length (pack rest) ≡ end
  pub text : now ++ outline_scope source depth rest ≡ before ++ outline_scope source depth all

module _ (source tree : List ℕ) (depth end : ℕ) (before : List ℕ) where
  -- one statement more
  pub scope_more : (all : Scope) (at next after : ℕ) (now later : List ℕ) → (l : ScopeLeft source tree depth all end before at now) → next + length (scope_behind l.rest) ≡ at + length (pack l.rest) → (s : Stmt) (rest : Scope) → l.rest ≡ s then rest → ScopeFits source rest → Stands tree (next + length (stmt_behind s)) (pack rest) → after ≡ next + length (stmt_behind s) → Adds (outline_stmt source depth s) now later → ScopeLeft source tree depth all end before after later
  unfolding outline_scope
  scope_more all at next after now later l behind s rest is fits stands moved adds =
      let size : length (scope_behind l.rest) ≡ length (stmt_behind s) + length (pack rest) = ap (λ x. length (scope_behind x)) is ∙ length-append (stmt_behind s) (pack rest) in
      let ends = l.ends in
      record {
        rest = rest;
        fits = fits;
        stands = subst (λ k. Stands tree k (pack rest)) (sym moved) stands;
        ends = omega arith;
        text =
            ap (λ (x : List ℕ). x ++ outline_scope source depth rest) adds.is
            ∙ append_assoc now (outline_stmt source depth s) (outline_scope source depth rest)
            ∙ ap (λ x. now ++ outline_scope source depth x) (sym is)
            ∙ l.text;
      }

  -- the end
  pub scope_all : (all : Scope) (at next : ℕ) (now : List ℕ) → (l : ScopeLeft source tree depth all end before at now) → l.rest ≡ done → next + length (scope_behind l.rest) ≡ at + length (pack l.rest) → (next ≡ end) × Adds (outline_scope source depth all) before now
  unfolding outline_scope
  scope_all all at next now l is behind =
      let ends = l.ends in
      let nothing : length (scope_behind l.rest) ≡ 0 = ap (λ x. length (scope_behind x)) is in
      (omega arith, record { is = sym (append-nil now) ∙ ap (λ x. now ++ outline_scope source depth x) (sym is) ∙ l.text })

-- a string has some bytes, its span at least
pub string_some : (k : String) → 1 ≤ length (pack_string k)
unfolding pack_string pack_span pack_text little_endian
string_some k = omega arith
