-- A checked template's statements stand at the front of its tree, and nothing behind them.
use Rattle.std.proofs.Common.{◌≡◌, ℕ, ◌≤◌, true, List, [], ◌++◌, length, drop, sym, refl, ap, ◌∙◌, subst, append-nil, arith, drop_of_length-le}
use borrow.Author.Tests.{clash}
use Rattle.meaning.specs.Or.{Or, fails, gives}
use Rattle.meaning.specs.Fault.{Fault}
use Rattle.meaning.specs.Tree.{Scope}
use Rattle.packing.specs.Limits.{ScopeFits, most_bytes}
use Rattle.packing.specs.Packing.{pack}
use Rattle.packing.specs.Unpacking.{unpack}
use Rattle.packing.proofs.RoundTrip.{unpacked_was_packed}
use Rattle.checker.specs.Whole.{is_given, unpacks}
use Rattle.checker.specs.There.{Stands}
use Rattle.checker.proofs.There.{stands_before}

-- bytes that unpack are some template's
pub template_scope : (source tree : List ℕ) → unpacks source tree ≡ true → (scope : Scope) × (unpack source tree ≡ gives scope)
template_scope source tree = by (unpack source tree)
  where
    by : (o : Or Fault Scope) → is_given o ≡ true → (scope : Scope) × (o ≡ gives scope)
    by (gives scope) e = (scope, refl)
    by (fails f) e = absurd (clash e)

pub record WholeThere (source tree : List ℕ) (scope : Scope) : Type 0 where
  pub source_short : length source ≤ most_bytes
  pub tree_short : length tree ≤ most_bytes
  pub fits : ScopeFits source scope
  pub stands : Stands tree 0 (pack scope)
  pub ends : length (pack scope) ≡ length tree

pub whole_there : (source tree : List ℕ) (scope : Scope) → unpack source tree ≡ gives scope → WholeThere source tree scope
whole_there source tree scope e =
    let told = unpacked_was_packed source tree scope e in
    let same : tree ≡ pack scope = told.0 in
    let size : length tree ≡ length (pack scope) = ap length same in
    let nothing : drop (length tree) tree ≡ [] = drop_of_length-le tree (omega arith) in
    let reads : tree ≡ pack scope ++ drop (length tree) tree = same ∙ sym (append-nil (pack scope)) ∙ ap (λ (s : List ℕ). pack scope ++ s) (sym nothing) in
    record {
      source_short = told.1.source_short;
      tree_short = subst (λ n. n ≤ most_bytes) (sym size) told.1.tree_short;
      fits = told.1.fits;
      stands = (stands_before tree 0 (length tree) (pack scope) (omega arith) (omega arith) reads).1;
      ends = sym size;
    }
