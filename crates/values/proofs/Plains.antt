-- Values without parts.
use Rattle.std.proofs.Common.{◌≡◌, ℕ, suc, ◌+◌, ◌-◌, ◌<◌, ◌≤◌, true, false, List, length, drop, sym, refl, ap, ◌∙◌, arith, length-append, length-drop}
use Rattle.meaning.specs.Charge.{Charge, cost}
use Rattle.meaning.specs.Value.{Value, none, boolean, integer, float, string, list, map}
use Rattle.meaning.specs.declared.fault.Cause.TheVariants.{Malformed, TooDeep}
use Rattle.packing.specs.Limits.{Simple}
use Rattle.packing.specs.Packing.{pack_value}
use Rattle.packing.specs.Reader.{read, refused}
use Rattle.packing.specs.Unpacking.{literal_value}
use Rattle.packing.proofs.Values.{literal_packed}
use Rattle.reader.specs.AfterByte.{plain_head}
use Rattle.values.specs.Measures.{plain_within, weigh}
use Rattle.values.proofs.Keys.{text_long}

literal_is : (s : List ℕ) → plain_head (length s) s ≡ literal_value s
unfolding plain_head literal_value
literal_is s = refl

-- the text of a value stands in its bytes
text_fewer : (v : Value) → Simple v → (cost v).bytes < length (pack_value v)
unfolding pack_value
text_fewer none simple = omega arith
text_fewer (boolean true) simple = omega arith
text_fewer (boolean false) simple = omega arith
text_fewer (integer z) simple = omega arith
text_fewer (float bits) simple = omega arith
text_fewer (string t) simple = omega (arith, text_long t)
text_fewer (list vs) simple = absurd simple
text_fewer (map es) simple = absurd simple

module _ (bytes : List ℕ) (pos levels : ℕ) where
  pub plain_cut : ((at : ℕ) → refused Malformed at ≡ plain_head at (drop pos bytes)) → refused Malformed (length bytes - pos) ≡ weigh cost (plain_within levels (drop pos bytes))
  plain_cut e =
      let literal = e (length (drop pos bytes)) ∙ literal_is (drop pos bytes) in
      rw (sym literal, length-drop pos bytes)

  module _ (v : Value) (next : ℕ) (e : (at : ℕ) → read v (drop next bytes) ≡ plain_head at (drop pos bytes)) where
    literal : read v (drop next bytes) ≡ literal_value (drop pos bytes)
    literal = e (length (drop pos bytes)) ∙ literal_is (drop pos bytes)

    pub plain_too_deep : levels ≡ 0 → refused TooDeep (length bytes - pos) ≡ weigh cost (plain_within levels (drop pos bytes))
    plain_too_deep no_room = rw (sym literal, no_room, length-drop pos bytes)

    pub plain_costs : (below : ℕ) → levels ≡ suc below → (c : Charge) → c ≡ cost v → read c (drop next bytes) ≡ weigh cost (plain_within levels (drop pos bytes))
    plain_costs below room c is = rw (sym literal, room, is)

    pub plain_text : (pos < next) × (next ≤ length bytes) → pos + (cost v).bytes ≤ next
    plain_text ahead =
        let forward = ahead.0 in
        let inside = ahead.1 in
        let told = literal_packed.tells (drop pos bytes) v (drop next bytes) (sym literal) in
        let sizes : length (drop pos bytes) ≡ length (pack_value v) + length (drop next bytes) = ap length told.0 ∙ length-append (pack_value v) (drop next bytes) in
        omega (arith, text_fewer v told.1.0, length-drop pos bytes, length-drop next bytes)
