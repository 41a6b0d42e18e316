-- What cells stand for. The cells are a list, the lowest first; each refers only to lower ones.
use Rattle.std.specs.Prelude.{◌≡◌, ℕ, ◌+◌, Bool, true, not, ◌&&◌, ◌||◌, List, [], ◌∷◌, ◌++◌, length, take, drop, nat_le, nat_lt, slice_index_or}
use Rattle.meaning.specs.Value.{Value, Text, none, boolean, integer, float, string, list, map, no_items, no_entries}
use Rattle.store.specs.Values.{pushed, inserted, has_parts, has_entries, goes_last}
use Rattle.store.specs.declared.cell.TextSpan.{TextSpan}
use Rattle.store.specs.declared.cell.Ref.{Ref}
use Rattle.store.specs.declared.cell.Ref.TheVariants.{None, At}
use Rattle.store.specs.declared.cell.Cell.{Cell}
use Rattle.store.specs.declared.cell.Cell.TheVariants.{Boolean, Integer, Float, String, EmptyList, Push, EmptyMap, Insert}

-- what stands at a span of the text
abbrev pub at_span : Text → TextSpan → Text
at_span text s = take s.len (drop s.start text)

-- what a reference stands for, where the cells stand for `vs`
abbrev pub of_ref : List Value → Ref → Value
of_ref vs None = none
of_ref vs (At i) = slice_index_or vs i none

-- what one cell stands for, where the cells below it stand for `vs`
abbrev pub of_cell : Text → List Value → Cell → Value
of_cell text vs (Boolean b) = boolean b
of_cell text vs (Integer n) = integer n
of_cell text vs (Float bits) = float bits
of_cell text vs (String s) = string (at_span text s)
of_cell text vs EmptyList = list no_items
of_cell text vs (Push front part len jump) = pushed (slice_index_or vs front none) (of_ref vs part)
of_cell text vs EmptyMap = map no_entries
of_cell text vs (Insert front key part len jump sorted) = inserted (slice_index_or vs front none) (at_span text key) (of_ref vs part)

-- what the cells stand for, each in turn, above cells that stand for `vs`
abbrev pub above : Text → List Value → List Cell → List Value
above text vs [] = vs
above text vs (c ∷ cs) = above text (vs ++ (of_cell text vs c ∷ [])) cs

-- what each cell stands for
abbrev pub meanings : Text → List Cell → List Value
meanings text cs = above text [] cs

-- WHICH CELLS MAY STAND ABOVE OTHERS

-- the reference is to none, or to one of the lowest n cells
abbrev pub below : ℕ → Ref → Bool
below n None = true
below n (At i) = nat_lt i n

-- the span lies within the lowest n bytes
abbrev pub inside : ℕ → TextSpan → Bool
inside n s = nat_le (s.start + s.len) n

-- the cell with the number i, above cells that stand for `vs`
abbrev pub fits : Text → ℕ → List Value → Cell → Bool
fits text i vs (Boolean b) = true
fits text i vs (Integer n) = true
fits text i vs (Float bits) = true
fits text i vs (String s) = inside (length text) s
fits text i vs EmptyList = true
fits text i vs (Push front part len jump) =
    nat_lt front i && (nat_lt jump i && (nat_le len i && (below i part && has_parts len (pushed (slice_index_or vs front none) (of_ref vs part)))))
fits text i vs EmptyMap = true
fits text i vs (Insert front key part len jump sorted) =
    nat_lt front i && (nat_lt jump i && (nat_le len i && (below i part && (inside (length text) key
    && (has_entries len (inserted (slice_index_or vs front none) (at_span text key) (of_ref vs part))
    && (not sorted || goes_last (at_span text key) (slice_index_or vs front none)))))))

abbrev pub fit_above : Text → List Value → List Cell → Bool
fit_above text vs [] = true
fit_above text vs (c ∷ cs) = fits text (length vs) vs c && fit_above text (vs ++ (of_cell text vs c ∷ [])) cs

-- each cell refers to cells below itself and to the text, and says how many parts it has
abbrev pub Sound : Text → List Cell → Type 0
Sound text cs = fit_above text [] cs ≡ true
