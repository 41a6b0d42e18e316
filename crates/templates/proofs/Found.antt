-- The first entry that has a name, as the library's search of a slice gives it.
use Rattle.std.proofs.Common.{◌≡◌, ℕ, suc, ◌<◌, ◌≤◌, Bool, false, List, [], ◌∷◌, length, get_or, take, sym, refl, ap, ◌∙◌, subst, ⊎_elim, arith, drop-cons}
use borrow.Author.Tests.{lt-true, le-false}
use Rattle.std.specs.Prelude.{position}
use Rattle.std.specs.List.{position_or_len}
use Rattle.std.specs.Str.{bytes_eq as same_text}
use Rattle.std.proofs.lemmas.List.{take_all}
use Rattle.std.proofs.lemmas.List.Sums.{fails_before_first, passes_at_first}
use Rattle.std.proofs.lemmas.Bool.{cases_lt, cond-true, cond-false, or_from}
use Rattle.meaning.specs.Names.{name_of}
use Rattle.meaning.specs.Value.{Text}
use Rattle.templates.specs.Entries.{named, First, Located}
use Rattle.templates.specs.declared.entry.Entry.{Entry}

module _ (name : Text) where
  abbrev pub has : Entry → Bool
  has e = same_text name (name_of e.name)

  none_named : (es : List Entry) (i : ℕ) → ((k : ℕ) (d : Entry) → k < i → has (get_or es k d) ≡ false) → named name (take i es) ≡ false
  none_named es ℕ.zero others = refl
  none_named [] (suc i) others = refl
  none_named (x ∷ es) (suc i) others = or_from (has x) (named name (take i es)) (others 0 x (omega arith)) (none_named es i (λ k d h. others (suc k) d (omega arith)))

  none_before : (es : List Entry) (i : ℕ) → i ≤ position_or_len has es → named name (take i es) ≡ false
  none_before es i h = none_named es i (λ k d below. fails_before_first has es k d (omega arith))

  first : (es : List Entry) (d : Entry) → position_or_len has es < length es → First name es (position_or_len has es)
  first es d h = record {
    entry = get_or es (position_or_len has es) d;
    within = h;
    is = drop-cons es (position_or_len has es) d h;
    has = passes_at_first has es d h;
    before = none_before es (position_or_len has es) (omega arith);
  }

  pub located : (es : List Entry) → Located name es (position has es)
  located [] = refl
  located (x ∷ rest) =
      let es : List Entry = x ∷ rest in
      ⊎_elim
      (λ (found : position_or_len has es < length es). subst (Located name es) (sym (cond-true _ _ _ (sym (lt-true _ _ found)))) (first es x found))
      (λ (past : length es ≤ position_or_len has es).
      subst (Located name es) (sym (cond-false _ _ _ (sym (le-false _ _ past))))
      (ap (named name) (sym (take_all (length es) es (omega arith))) ∙ none_before es (length es) past))
      (cases_lt (position_or_len has es) (length es))
