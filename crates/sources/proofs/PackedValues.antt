-- What the first bytes of a packed value say of it.
use Rattle.std.proofs.Common.{◌≡◌, ℕ, zero, suc, ◌-◌, true, false, List, [], ◌∷◌, length, drop, sym, refl, ap, ◌∙◌, subst, inl, inr, arith, length-drop}
use Rattle.std.proofs.lemmas.Bool.{false≢true}
use Rattle.std.proofs.lemmas.List.{take_all}
use Rattle.std.specs.List.{slice_range}
use Rattle.std.proofs.lemmas.Bool.Decides.{eqb_tells}
use Rattle.meaning.specs.Charge.{cost}
use Rattle.meaning.specs.Or.{fails, gives}
use Rattle.meaning.specs.Step.{return, continue}
use Rattle.meaning.specs.Value.{Value, Items, Entries, list, map}
use Rattle.meaning.specs.declared.fault.Cause.TheVariants.{Malformed}
use Rattle.packing.specs.Commands.{list_byte, map_byte}
use Rattle.packing.specs.Limits.{Before, no_key, ascends, Simple}
use Rattle.packing.specs.Reader.{Outcome, read, refused, Reader, byte, word}
use Rattle.packing.specs.Unpacking.{answer, entries, items, literal_value, nothing_below, room_at, text, unpack_value, value_of, value_within}
use Rattle.packing.proofs.Readers.{split, passed, finish, never_read}
use Rattle.packing.proofs.Values.{literal_packed}
use Rattle.values.proofs.Lists.{list_cut, list_too_deep}
use Rattle.values.proofs.Maps.{map_cut}
use Rattle.values.proofs.Starts.{value_cut, value_list, value_map, value_plain}
use Rattle.sources.specs.Packed.{Unpacks, is_value, unpacked, value_or_none}
use Rattle.values.specs.Measures.{parts_within, rest_within, weigh}

-- what stands behind a place
pub tail_is : (bytes : List ℕ) (n : ℕ) → slice_range bytes n (length bytes) ≡ drop n bytes
tail_is bytes n = take_all (length bytes - n) (drop n bytes) (omega (arith, length-drop n bytes))

-- with no level left no entries are read
shut : (at : ℕ) (child : Reader Value) (n : ℕ) (before : Before) (s : List ℕ) (es : Entries) (u : List ℕ) → entries at false child n before s ≡ read es u → ⊥
unfolding entries
shut at child zero before s es u e = never_read e
shut at child (suc n) before s es u e =
    split (text at s) e (λ k t _ e₁.
    passed (ascends before k) _ _ _ _ e₁ (λ _ e₂.
    never_read e₂))

-- a value of so many levels was read
module _ (bytes : List ℕ) (levels : ℕ) (v : Value) (rest : List ℕ) (was : value_within levels bytes ≡ read v rest) where
  pub no_byte : ((at : ℕ) → refused Malformed at ≡ byte at bytes) → ⊥
  no_byte e = never_read (value_cut bytes 0 levels e ∙ ap (weigh cost) was)

  module _ (b next : ℕ) (one : (at : ℕ) → read b (drop next bytes) ≡ byte at bytes) where
    plain : (38 ≡ b → ⊥) → (39 ≡ b → ⊥) → Simple v
    plain no_list no_map =
        split (literal_value bytes) (value_plain bytes 0 levels b next one no_list no_map ∙ was) (λ w u h e₁.
        passed (room_at levels) _ _ _ _ e₁ (λ _ e₂.
        finish (λ x _. Simple x) e₂ (literal_packed.tells bytes w u h).1.0))

    module _ (is : b ≡ 38) where
      as_list : rest_within levels (length bytes - 0) list_byte (drop next bytes) ≡ read v rest
      as_list = value_list bytes 0 levels b next one is ∙ was

      pub list_uncounted : ((at : ℕ) → refused Malformed at ≡ word 2 at (drop next bytes)) → ⊥
      list_uncounted e = never_read (list_cut levels (length bytes - 0) (drop next bytes) (e (length bytes - 0)) ∙ ap (weigh cost) as_list)

      module _ (n : ℕ) (t : List ℕ) (two : (at : ℕ) → read n t ≡ word 2 at (drop next bytes)) where
        pub list_not_deep : levels ≡ 0 → ⊥
        list_not_deep none = never_read (list_too_deep levels (length bytes - 0) (drop next bytes) n t (two (length bytes - 0)) none ∙ ap (weigh cost) as_list)

        pub list_parts : (below : ℕ) → levels ≡ suc below → (vs : Items) × (v ≡ list vs) × ((u : List ℕ) × (items (value_within below) n t ≡ read vs u))
        unfolding value_of
        list_parts below room =
            let at = length bytes - 0 in
            let there : continue (items (value_within below) n t) (λ vs. return (list vs)) ≡ rest_within levels at list_byte (drop next bytes) = rw (room, sym (two at)) refl in
            split (items (value_within below) n t) (there ∙ as_list) (λ vs u h e₁.
            (vs, finish (λ w _. w ≡ list vs) e₁ refl, (u, h)))

      list_only : (vs : Items) × (v ≡ list vs)
      unfolding value_of
      list_only =
          let at = length bytes - 0 in
          split (word 2 at (drop next bytes)) as_list (λ n t _ e₁.
          passed (room_at levels) _ _ _ _ e₁ (λ _ e₂.
          split (items (parts_within levels) n t) e₂ (λ vs _ _ e₃.
          (vs, finish (λ w _. w ≡ list vs) e₃ refl))))

    module _ (is : b ≡ 39) where
      as_map : rest_within levels (length bytes - 0) map_byte (drop next bytes) ≡ read v rest
      as_map = value_map bytes 0 levels b next one is ∙ was

      pub map_uncounted : ((at : ℕ) → refused Malformed at ≡ word 2 at (drop next bytes)) → ⊥
      map_uncounted e = never_read (map_cut levels (length bytes - 0) (drop next bytes) (e (length bytes - 0)) ∙ ap (weigh cost) as_map)

      module _ (n : ℕ) (t : List ℕ) (two : (at : ℕ) → read n t ≡ word 2 at (drop next bytes)) where
        pub map_not_deep : levels ≡ 0 → ⊥
        unfolding value_of
        map_not_deep none =
            let at = length bytes - 0 in
            let there : continue (entries at false nothing_below n no_key t) (λ es. return (map es)) ≡ rest_within levels at map_byte (drop next bytes) = rw (none, sym (two at)) refl in
            split (entries at false nothing_below n no_key t) (there ∙ as_map) (λ es u h _. shut at nothing_below n no_key t es u h)

        pub map_parts : (below : ℕ) → levels ≡ suc below → (es : Entries) × (v ≡ map es) × ((u : List ℕ) × (entries (length bytes - 0) true (value_within below) n no_key t ≡ read es u))
        unfolding value_of
        map_parts below room =
            let at = length bytes - 0 in
            let there : continue (entries at true (value_within below) n no_key t) (λ es. return (map es)) ≡ rest_within levels at map_byte (drop next bytes) = rw (room, sym (two at)) refl in
            split (entries at true (value_within below) n no_key t) (there ∙ as_map) (λ es u h e₁.
            (es, finish (λ w _. w ≡ map es) e₁ refl, (u, h)))

      map_only : (es : Entries) × (v ≡ map es)
      unfolding value_of
      map_only =
          let at = length bytes - 0 in
          split (word 2 at (drop next bytes)) as_map (λ n t _ e₁.
          split (entries at (room_at levels) (parts_within levels) n no_key t) e₁ (λ es _ _ e₂.
          (es, finish (λ w _. w ≡ map es) e₂ refl)))

    pub no_list : (b ≡ 38 → ⊥) → (vs : Items) → v ≡ list vs → ⊥
    no_list other vs e =
        elim (eqb_tells b 39) [
          | inl h ↦ (let m = map_only h.1 in differ m.0 (sym m.1 ∙ e))
          | inr h ↦ subst Simple e (plain (λ k. other (sym k)) (λ k. h.1 (sym k)))
        ]
      where
        differ : (es : Entries) → map es ≡ list vs → ⊥
        differ es k = cc

    pub no_map : (b ≡ 39 → ⊥) → (es : Entries) → v ≡ map es → ⊥
    no_map other es e =
        elim (eqb_tells b 38) [
          | inl h ↦ (let m = list_only h.1 in differ m.0 (sym m.1 ∙ e))
          | inr h ↦ subst Simple e (plain (λ k. h.1 (sym k)) (λ k. other (sym k)))
        ]
      where
        differ : (vs : Items) → list vs ≡ map es → ⊥
        differ vs k = cc

-- what bytes pack stands at their front
pub unpacked_stands : (bytes : List ℕ) → Unpacks bytes → (rest : List ℕ) × (value_within 16 bytes ≡ read (unpacked bytes) rest)
unfolding unpack_value answer
unpacked_stands bytes h = by (length bytes) (value_within 16 bytes) h
  where
    by : (size : ℕ) (o : Outcome Value) → is_value (answer size o) ≡ true → (rest : List ℕ) × (o ≡ read (value_or_none (answer size o)) rest)
    by size (gives (v, [])) e = ([], refl)
    by size (gives (v, b ∷ s)) e = absurd (false≢true e)
    by size (fails (cause, left)) e = absurd (false≢true e)
