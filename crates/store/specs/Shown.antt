-- What reading a cell says of the value that it stands for.
use Rattle.std.specs.Prelude.{◌≡◌, ℕ, ◌+◌, ◌<◌, ◌≤◌, Bool, true, List, length, slice_index_or}
use Rattle.meaning.specs.Value.{Value, Items, Entries, Text, none, boolean, integer, float, string, list, map, no_items, no_entries}
use Rattle.meaning.specs.Parts.{append, count_items, insert, count_entries}
use Rattle.store.specs.Values.{ascends, above_all}
use Rattle.store.specs.Cells.{at_span, inside, of_ref, below}
use Rattle.store.specs.declared.cell.TextSpan.{TextSpan}
use Rattle.store.specs.declared.cell.Ref.{Ref}
use Rattle.store.specs.declared.cell.Cell.{Cell}
use Rattle.store.specs.declared.cell.Cell.TheVariants.{Boolean, Integer, Float, String, EmptyList, Push, EmptyMap, Insert}

-- the value v is a list that was pushed to, in the cell i of cells that stand for `ms`
pub record ShowsPush (i : ℕ) (ms : List Value) (front : ℕ) (part : Ref) (len jump : ℕ) (v : Value) : Type 0 where
  pub low : front < i
  pub jump_low : jump < i
  pub short : len ≤ i
  pub part_low : below i part ≡ true
  pub items : Items
  pub front_is : slice_index_or ms front none ≡ list items
  pub value_is : v ≡ list (append items (of_ref ms part))
  pub counted : count_items items + 1 ≡ len

-- the value v is a map into which was inserted
pub record ShowsInsert (text : Text) (i : ℕ) (ms : List Value) (front : ℕ) (key : TextSpan) (part : Ref) (len jump : ℕ) (sorted : Bool) (v : Value) : Type 0 where
  pub low : front < i
  pub jump_low : jump < i
  pub short : len ≤ i
  pub part_low : below i part ≡ true
  pub key_inside : inside (length text) key ≡ true
  pub entries : Entries
  pub front_is : slice_index_or ms front none ≡ map entries
  pub value_is : v ≡ map (insert (at_span text key) (of_ref ms part) entries)
  pub counted : count_entries (insert (at_span text key) (of_ref ms part) entries) ≡ len
  pub ascending : ascends (insert (at_span text key) (of_ref ms part) entries) ≡ true
  pub last : sorted ≡ true → above_all (at_span text key) entries ≡ true

-- the cell c with the number i stands for v
abbrev pub Shows : Text → ℕ → List Value → Value → Cell → Type 0
Shows text i ms v (Boolean b) = v ≡ boolean b
Shows text i ms v (Integer n) = v ≡ integer n
Shows text i ms v (Float bits) = v ≡ float bits
Shows text i ms v (String s) = (v ≡ string (at_span text s)) × (inside (length text) s ≡ true)
Shows text i ms v EmptyList = v ≡ list no_items
Shows text i ms v (Push front part len jump) = ShowsPush i ms front part len jump v
Shows text i ms v EmptyMap = v ≡ map no_entries
Shows text i ms v (Insert front key part len jump sorted) = ShowsInsert text i ms front key part len jump sorted v
