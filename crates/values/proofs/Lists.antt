-- Lists: their count, their nesting, and their items in a row.
use Rattle.std.proofs.Common.{◌≡◌, ℕ, suc, List, sym, refl, ap}
use Rattle.meaning.specs.Charge.{Charge, ◌⊕◌, one_cell, cost, cost_items}
use Rattle.meaning.specs.Or.{fails, gives}
use Rattle.meaning.specs.Step.{return, continue}
use Rattle.meaning.specs.Value.{Value, Items, item}
use Rattle.meaning.specs.declared.fault.Cause.{Cause}
use Rattle.meaning.specs.declared.fault.Cause.TheVariants.{Malformed, TooDeep}
use Rattle.packing.specs.Commands.{list_byte}
use Rattle.packing.specs.Reader.{Outcome, read, refused, Reader, word}
use Rattle.packing.specs.Unpacking.{items, value_of, value_within}
use Rattle.values.specs.Costs.{charge_of, with_part}
use Rattle.values.specs.Measures.{rest_within, weigh}
use Rattle.values.specs.declared.cost.Cost.{Cost}
use Rattle.values.proofs.Sums.{after, plus_assoc, plus_free, part_charged, read_as, refused_as, value_charged, with_value}

one_item : (sum : Charge) (v : Value) (o : Outcome Items) → weigh (after cost_items (sum ⊕ (cost v ⊕ one_cell))) o ≡ weigh (after cost_items sum) (continue o (λ vs. return (item v vs)))
one_item sum v (gives (vs, u)) = ap (λ c. read c u) (sym (plus_assoc sum (cost v ⊕ one_cell) (cost_items vs)))
one_item sum v (fails (cause, left)) = refl

-- `left` items are to be measured, and one of them now
module _ (child : Reader Value) (left n : ℕ) (s : List ℕ) (some : left ≡ suc n) where
  pub items_more : (whole part sum : Cost) (t : List ℕ) → read (charge_of part) t ≡ weigh cost (child s) → sum ≡ with_part whole part 0 → weigh (after cost_items (charge_of sum)) (items child n t) ≡ weigh (after cost_items (charge_of whole)) (items child left s)
  unfolding items
  items_more whole part sum t e grown = let told = read_as cost (child s) (charge_of part) t e in by told.what told.is told.costs
    where
      by : (v : Value) → child s ≡ read v t → charge_of part ≡ cost v → weigh (after cost_items (charge_of sum)) (items child n t) ≡ weigh (after cost_items (charge_of whole)) (items child left s)
      by v p q = rw (part_charged whole part sum 0 (cost v) grown q, some, p) (one_item (charge_of whole) v (items child n t))

  pub items_stop : (f : Items → Charge) (cause : Cause) (at : ℕ) → refused cause at ≡ weigh cost (child s) → refused cause at ≡ weigh f (items child left s)
  unfolding items
  items_stop f cause at e = rw (some, refused_as cost (child s) cause at e)

pub items_end : (child : Reader Value) (left : ℕ) (sum : Charge) (s : List ℕ) → left ≡ 0 → read sum s ≡ weigh (after cost_items sum) (items child left s)
unfolding items
items_end child left sum s end = rw end (ap (λ c. read c s) (sym (plus_free sum)))

module _ (levels at : ℕ) (s : List ℕ) where
  pub list_cut : refused Malformed at ≡ word 2 at s → refused Malformed at ≡ weigh cost (rest_within levels at list_byte s)
  unfolding value_of
  list_cut e = rw (sym e)

  module _ (n : ℕ) (t : List ℕ) (e : read n t ≡ word 2 at s) where
    pub list_too_deep : levels ≡ 0 → refused TooDeep at ≡ weigh cost (rest_within levels at list_byte s)
    unfolding value_of
    list_too_deep no_room = rw (no_room, sym e)

    module _ (below : ℕ) (room : levels ≡ suc below) where
      pub list_stops : (cause : Cause) (off : ℕ) → refused cause off ≡ weigh cost_items (items (value_within below) n t) → refused cause off ≡ weigh cost (rest_within levels at list_byte s)
      unfolding value_of
      list_stops cause off g = rw (room, sym e, refused_as cost_items (items (value_within below) n t) cause off g)

      pub list_costs : (parts : Cost) (u : List ℕ) → read (charge_of parts) u ≡ weigh cost_items (items (value_within below) n t) → read (charge_of (with_value parts)) u ≡ weigh cost (rest_within levels at list_byte s)
      unfolding value_of
      list_costs parts u g = let told = read_as cost_items (items (value_within below) n t) (charge_of parts) u g in by told.what told.is told.costs
        where
          by : (vs : Items) → items (value_within below) n t ≡ read vs u → charge_of parts ≡ cost_items vs → read (charge_of (with_value parts)) u ≡ weigh cost (rest_within levels at list_byte s)
          by vs p q = rw (value_charged parts (cost_items vs) q, room, sym e, p)
