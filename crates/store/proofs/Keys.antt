-- The order of keys by their bytes: of two keys one precedes the other, or they are the same.
use Rattle.std.proofs.Common.{◌≡◌, Bool, true, false, Ordering, Less, Equal, Greater, sym, refl, ap, ◌∙◌}
use Rattle.std.proofs.lemmas.Bool.{true≢false}
use Rattle.std.proofs.lemmas.Map.Text.{is_eq-slice_cmp}
use Rattle.std.specs.Str.{bytes_eq as same_text}
use Rattle.std.specs.Cmp.{IsTotalOrder, nat_cmp_total}
use Rattle.std.specs.Cmp.Lexicographic.{slice_cmp, lists_total, bytes_decides}
use Rattle.std.specs.Ordering.{is_lt, is_eq, ordering_reverse, nat_cmp}
use Rattle.meaning.specs.Bytes.{precedes}
use Rattle.meaning.specs.Value.{Text}
use Rattle.values.proofs.Keys.{less_precedes}

-- as slices are compared
abbrev pub order : Text → Text → Ordering
order = slice_cmp nat_cmp

ordered : IsTotalOrder order
ordered = lists_total nat_cmp_total

pub same_is : (k l : Text) → same_text k l ≡ true → k ≡ l
same_is k l h = (bytes_decides k l).0 h

pub same_itself : (k : Text) → same_text k k ≡ true
same_itself k = (bytes_decides k k).1 refl

is_less : (o : Ordering) → is_lt o ≡ true → o ≡ Less
is_less Less h = refl
is_less Equal h = cc
is_less Greater h = cc

less : (k l : Text) → precedes k l ≡ true → order k l ≡ Less
less k l h = is_less (order k l) (less_precedes k l ∙ h)

pub precedes_trans : (j k l : Text) → precedes j k ≡ true → precedes k l ≡ true → precedes j l ≡ true
precedes_trans j k l h g = sym (less_precedes j l) ∙ ap is_lt (ordered.trans j k l (less j k h) (less k l g))

pub precedes_differs : (k l : Text) → precedes k l ≡ true → same_text k l ≡ false
precedes_differs k l h = sym (is_eq-slice_cmp k l) ∙ ap is_eq (less k l h)

pub precedes_back : (k l : Text) → precedes k l ≡ true → precedes l k ≡ false
precedes_back k l h = sym (less_precedes l k) ∙ ap is_lt (ordered.antisymm l k ∙ ap ordering_reverse (less k l h))

pub differs_back : (k l : Text) → precedes k l ≡ true → same_text l k ≡ false
differs_back k l h = sym (is_eq-slice_cmp l k) ∙ ap is_eq (ordered.antisymm l k ∙ ap ordering_reverse (less k l h))

pub precedes_itself : (k : Text) → precedes k k ≡ false
precedes_itself k = by (precedes k k) refl
  where
    by : (b : Bool) → precedes k k ≡ b → precedes k k ≡ false
    by true e = absurd (true≢false (sym (same_itself k) ∙ precedes_differs k k e))
    by false e = e

-- where k stands by l
pub data Side (k l : Text) : Type 0 where
  before : precedes k l ≡ true → Side k l
  at : k ≡ l → Side k l
  behind : precedes l k ≡ true → Side k l

pub side : (k l : Text) → Side k l
side k l = by (order k l) refl
  where
    by : (o : Ordering) → order k l ≡ o → Side k l
    by Less e = before (sym (less_precedes k l) ∙ ap is_lt e)
    by Equal e = at (same_is k l (sym (is_eq-slice_cmp k l) ∙ ap is_eq e))
    by Greater e = behind (sym (less_precedes l k) ∙ ap is_lt (ordered.antisymm l k ∙ ap ordering_reverse e))
