-- The order of keys is the standard library's order of slices, and a key has at least as many bytes as its text.
use Rattle.std.proofs.Common.{◌≡◌, ℕ, ◌+◌, ◌≤◌, Bool, true, false, cond, ◌&&◌, eqb, ltb, List, [], ◌∷◌, ◌++◌, length, drop, Ordering, Less, Equal, Greater, sym, refl, ap, ◌∙◌, arith, length-append, length-drop}
use Rattle.std.specs.Ordering.{is_lt, ordering_then, nat_cmp}
use Rattle.meaning.specs.Bytes.{little_endian, precedes}
use Rattle.packing.specs.Packing.{pack_text}
use Rattle.packing.specs.Reader.{read}
use Rattle.packing.specs.Unpacking.{text}
use Rattle.packing.proofs.Fields.{text_packed}
use Rattle.std.specs.Cmp.Lexicographic.{slice_cmp}

by_first : (below same : Bool) (o : Ordering) (q : Bool) → is_lt o ≡ q → is_lt (ordering_then (cond below Less (cond same Equal Greater)) o) ≡ cond below true (same && q)
by_first true same o q e = refl
by_first false true o q e = e
by_first false false o q e = refl

pub less_precedes : (a b : List ℕ) → is_lt (slice_cmp nat_cmp a b) ≡ precedes a b
unfolding precedes
less_precedes [] [] = refl
less_precedes [] (b ∷ t) = refl
less_precedes (a ∷ s) [] = refl
less_precedes (a ∷ s) (b ∷ t) = by_first (ltb a b) (eqb a b) (slice_cmp nat_cmp s t) (precedes s t) (less_precedes s t)

pub text_long : (t : List ℕ) → length t ≤ length (pack_text t)
unfolding pack_text
text_long t = omega (arith, length-append (little_endian 2 (length t)) t)

pub text_within : (bytes : List ℕ) (pos next : ℕ) (t : List ℕ) → (pos ≤ next) × (next ≤ length bytes) → read t (drop next bytes) ≡ text 0 (drop pos bytes) → pos + length t ≤ next
text_within bytes pos next t within e =
    let forward = within.0 in
    let inside = within.1 in
    let was : drop pos bytes ≡ pack_text t ++ drop next bytes = ((text_packed 0).tells (drop pos bytes) t (drop next bytes) (sym e)).0 in
    let sizes : length (drop pos bytes) ≡ length (pack_text t) + length (drop next bytes) = ap length was ∙ length-append (pack_text t) (drop next bytes) in
    omega (arith, text_long t, length-drop pos bytes, length-drop next bytes)
