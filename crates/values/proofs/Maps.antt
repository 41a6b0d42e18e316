-- Maps: their count, their nesting, and their entries in a row.
use Rattle.std.proofs.Common.{◌≡◌, ℕ, suc, Bool, true, false, List, length, sym, refl, ap}
use Rattle.meaning.specs.Charge.{Charge, ◌⊕◌, cell_and_text, cost, cost_entries}
use Rattle.meaning.specs.Or.{fails, gives}
use Rattle.meaning.specs.Step.{return, continue, ◌>>=◌}
use Rattle.meaning.specs.Value.{Value, Text, Entries, entry}
use Rattle.meaning.specs.declared.fault.Cause.{Cause}
use Rattle.meaning.specs.declared.fault.Cause.TheVariants.{Malformed, TooDeep}
use Rattle.packing.specs.Commands.{map_byte}
use Rattle.packing.specs.Limits.{Before, no_key, the_key, ascends}
use Rattle.packing.specs.Reader.{Outcome, read, refused, Reader, ensure, word}
use Rattle.packing.specs.Unpacking.{entries, nothing_below, text, value_of, value_within}
use Rattle.values.specs.Costs.{charge_of, with_part}
use Rattle.values.specs.Keys.{rising_key}
use Rattle.values.specs.Measures.{rest_within, weigh}
use Rattle.values.specs.declared.cost.Cost.{Cost}
use Rattle.values.proofs.Sums.{after, plus_assoc, plus_free, part_charged, read_as, refused_as, value_charged, with_value}

one_entry : (sum : Charge) (k : Text) (v : Value) (o : Outcome Entries) → weigh (after cost_entries (sum ⊕ (cost v ⊕ cell_and_text k))) o ≡ weigh (after cost_entries sum) (continue o (λ es. return (entry k v es)))
one_entry sum k v (gives (es, u)) = ap (λ c. read c u) (sym (plus_assoc sum (cost v ⊕ cell_and_text k) (cost_entries es)))
one_entry sum k v (fails (cause, left)) = refl

-- a key is read, and tested, before what follows it
key_first : {B : Type 0} (at : ℕ) (before : Before) (o : Outcome Text) (g : Text → Reader B) → continue o (λ k t. continue (ensure (ascends before k) Malformed at t) (λ _. g k)) ≡ continue (continue o (λ k t. continue (ensure (ascends before k) Malformed at t) (λ _. return k))) g
key_first {B} at before (gives (k, t)) g = tested (ascends before k)
  where
    tested : (above : Bool) → continue (ensure above Malformed at t) (λ _. g k) ≡ continue (continue (ensure above Malformed at t) (λ _. return k)) g
    tested true = refl
    tested false = refl
key_first at before (fails (cause, left)) g = refl

module _ (at : ℕ) (child : Reader Value) where
  entry_splits : (n : ℕ) (before : Before) (s : List ℕ) → entries at true child (suc n) before s ≡ continue (rising_key before at s) (λ k. child >>= λ v. entries at true child n (the_key k) >>= λ es. return (entry k v es))
  unfolding entries
  entry_splits n before s = key_first at before (text at s) (λ k. child >>= λ v. entries at true child n (the_key k) >>= λ es. return (entry k v es))

  -- `left` entries are to be measured, and one of them now
  module _ (left n : ℕ) (before : Before) (s : List ℕ) (some : left ≡ suc n) where
    pub entries_cut : (f : Entries → Charge) → refused Malformed at ≡ rising_key before at s → refused Malformed at ≡ weigh f (entries at true child left before s)
    entries_cut f e = rw (some, entry_splits n before s, sym e)

    module _ (k t : List ℕ) (e : read k t ≡ rising_key before at s) where
      pub entries_stop : (f : Entries → Charge) (cause : Cause) (off : ℕ) → refused cause off ≡ weigh cost (child t) → refused cause off ≡ weigh f (entries at true child left before s)
      entries_stop f cause off g = rw (some, entry_splits n before s, sym e, refused_as cost (child t) cause off g)

      pub entries_more : (whole part sum : Cost) (u : List ℕ) → read (charge_of part) u ≡ weigh cost (child t) → sum ≡ with_part whole part (length k) → weigh (after cost_entries (charge_of sum)) (entries at true child n (the_key k) u) ≡ weigh (after cost_entries (charge_of whole)) (entries at true child left before s)
      entries_more whole part sum u g grown = let told = read_as cost (child t) (charge_of part) u g in by told.what told.is told.costs
        where
          by : (v : Value) → child t ≡ read v u → charge_of part ≡ cost v → weigh (after cost_entries (charge_of sum)) (entries at true child n (the_key k) u) ≡ weigh (after cost_entries (charge_of whole)) (entries at true child left before s)
          by v p q = rw (part_charged whole part sum (length k) (cost v) grown q, some, entry_splits n before s, sym e, p) (one_entry (charge_of whole) k v (entries at true child n (the_key k) u))

  pub entries_end : (left : ℕ) (before : Before) (sum : Charge) (s : List ℕ) → left ≡ 0 → read sum s ≡ weigh (after cost_entries sum) (entries at true child left before s)
  unfolding entries
  entries_end left before sum s end = rw end (ap (λ c. read c s) (sym (plus_free sum)))

-- NO LEVEL IS LEFT

module _ (at : ℕ) (n : ℕ) (s : List ℕ) where
  pub deep_empty : n ≡ 0 → refused TooDeep at ≡ weigh cost_entries (entries at false nothing_below n no_key s)
  unfolding entries
  deep_empty none = rw none

  module _ (fewer : ℕ) (some : n ≡ suc fewer) where
    pub deep_key : (k t : List ℕ) → read k t ≡ text at s → refused TooDeep at ≡ weigh cost_entries (entries at false nothing_below n no_key s)
    unfolding entries
    deep_key k t e = rw (some, sym e)

    pub deep_cut : refused Malformed at ≡ text at s → refused Malformed at ≡ weigh cost_entries (entries at false nothing_below n no_key s)
    unfolding entries
    deep_cut e = rw (some, sym e)

-- THE WHOLE MAP

module _ (levels at : ℕ) (s : List ℕ) where
  pub map_cut : refused Malformed at ≡ word 2 at s → refused Malformed at ≡ weigh cost (rest_within levels at map_byte s)
  unfolding value_of
  map_cut e = rw (sym e)

  module _ (n : ℕ) (t : List ℕ) (e : read n t ≡ word 2 at s) where
    pub map_too_deep : levels ≡ 0 → (cause : Cause) (off : ℕ) → refused cause off ≡ weigh cost_entries (entries at false nothing_below n no_key t) → refused cause off ≡ weigh cost (rest_within levels at map_byte s)
    unfolding value_of
    map_too_deep no_room cause off g = rw (no_room, sym e, refused_as cost_entries (entries at false nothing_below n no_key t) cause off g)

    module _ (below : ℕ) (room : levels ≡ suc below) where
      pub map_stops : (cause : Cause) (off : ℕ) → refused cause off ≡ weigh cost_entries (entries at true (value_within below) n no_key t) → refused cause off ≡ weigh cost (rest_within levels at map_byte s)
      unfolding value_of
      map_stops cause off g = rw (room, sym e, refused_as cost_entries (entries at true (value_within below) n no_key t) cause off g)

      pub map_costs : (parts : Cost) (u : List ℕ) → read (charge_of parts) u ≡ weigh cost_entries (entries at true (value_within below) n no_key t) → read (charge_of (with_value parts)) u ≡ weigh cost (rest_within levels at map_byte s)
      unfolding value_of
      map_costs parts u g = let told = read_as cost_entries (entries at true (value_within below) n no_key t) (charge_of parts) u g in by told.what told.is told.costs
        where
          by : (es : Entries) → entries at true (value_within below) n no_key t ≡ read es u → charge_of parts ≡ cost_entries es → read (charge_of (with_value parts)) u ≡ weigh cost (rest_within levels at map_byte s)
          by es p q = rw (value_charged parts (cost_entries es) q, room, sym e, p)
