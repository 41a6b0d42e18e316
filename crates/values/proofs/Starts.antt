-- Which value a byte begins.
use Rattle.std.proofs.Common.{◌≡◌, ℕ, zero, suc, ◌-◌, Bool, List, [], ◌∷◌, length, drop, sym, refl, length-drop}
use mathlib.Core.Option.{Option, none, some}
use Rattle.meaning.specs.Charge.{cost}
use Rattle.meaning.specs.Step.{return, continue, ◌>>◌}
use Rattle.meaning.specs.Value.{Value}
use Rattle.meaning.specs.declared.fault.Cause.TheVariants.{Malformed, TooDeep}
use Rattle.packing.specs.Commands.{PlainByte, plain_code, plain_bytes, of_plain, list_byte, map_byte, value_code, value_bytes}
use Rattle.packing.specs.Reader.{read, refused, Reader, ensure, byte, coded, expect, command}
use Rattle.packing.specs.Unpacking.{a_value, literal_value, plain_value, room_at, value_of, value_within}
use Rattle.reader.proofs.AfterBytes.{coded_apart, coded_lifted, lifted}
use Rattle.values.specs.Measures.{parts_within, plain_within, rest_within, weigh}

at_levels : (levels : ℕ) (s : List ℕ) → value_within levels s ≡ a_value (room_at levels) (parts_within levels) s
unfolding value_within
at_levels zero s = refl
at_levels (suc levels) s = refl

-- a value without parts, as a value's command
as_plain : (at : ℕ) (room : Bool) (child : Reader Value) (u : List ℕ) (o : Option PlainByte) → continue (continue (expect at o u) (plain_value at)) (λ v. ensure room TooDeep at >> return v) ≡ continue (expect at (lifted of_plain o) u) (value_of at room child)
unfolding value_of
as_plain at room child u (some k) = refl
as_plain at room child u none = refl

module _ (bytes : List ℕ) (pos levels : ℕ) where
  pub value_cut : ((at : ℕ) → refused Malformed at ≡ byte at (drop pos bytes)) → refused Malformed (length bytes - pos) ≡ weigh cost (value_within levels (drop pos bytes))
  unfolding a_value command
  value_cut e = rw (at_levels levels (drop pos bytes), sym (e (length (drop pos bytes))), length-drop pos bytes)

  module _ (b next : ℕ) (e : (at : ℕ) → read b (drop next bytes) ≡ byte at (drop pos bytes)) where
    pub value_list : b ≡ 38 → rest_within levels (length bytes - pos) list_byte (drop next bytes) ≡ value_within levels (drop pos bytes)
    unfolding a_value command coded
    value_list is = rw (at_levels levels (drop pos bytes), sym (e (length (drop pos bytes))), is, length-drop pos bytes)

    pub value_map : b ≡ 39 → rest_within levels (length bytes - pos) map_byte (drop next bytes) ≡ value_within levels (drop pos bytes)
    unfolding a_value command coded
    value_map is = rw (at_levels levels (drop pos bytes), sym (e (length (drop pos bytes))), is, length-drop pos bytes)

    pub value_plain : (38 ≡ b → ⊥) → (39 ≡ b → ⊥) → plain_within levels (drop pos bytes) ≡ value_within levels (drop pos bytes)
    unfolding a_value literal_value command
    value_plain no_list no_map =
        let absent = coded_apart value_code (list_byte ∷ map_byte ∷ []) b (no_list, (no_map, tt)) in
        let found_as : coded value_code value_bytes b ≡ lifted of_plain (coded plain_code plain_bytes b) = coded_lifted plain_code value_code of_plain (λ k. refl) plain_bytes (list_byte ∷ map_byte ∷ []) b absent in
        rw (at_levels levels (drop pos bytes), sym (e (length (drop pos bytes))), found_as) (as_plain (length (drop pos bytes)) (room_at levels) (parts_within levels) (drop next bytes) (coded plain_code plain_bytes b))
