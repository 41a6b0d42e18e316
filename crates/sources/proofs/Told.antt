-- What one member finds in a packed value.
use Rattle.std.proofs.Common.{ℕ, Some, None, Err, refl, sym, subst}
use mathlib.Core.Option.{Option, none, some}
use Rattle.std.specs.declared.option.Option as code
use Rattle.meaning.specs.Parts.{count_items, nth, value_of}
use Rattle.meaning.specs.Value.{Value, none as none_value, boolean, integer, float, string, list, map, Items, Entries, Text}
use Rattle.meaning.specs.Walk.{Ask, index, key, failed, absent, found_or}
use Rattle.meaning.specs.declared.fault.Cause.{Cause}
use Rattle.meaning.specs.declared.fault.Cause.TheVariants.{NoSuchKey, NoSuchIndex, WrongAccess}
use Rattle.meaning.specs.declared.tree.AccessOp.{AccessOp}
use Rattle.meaning.specs.declared.tree.AccessOp.TheVariants.{Direct, Optional}
use Rattle.sources.specs.Outcomes.{FoundIn, Tells, absent_or, outcome, part_outcome}
use Rattle.sources.specs.Packed.{EntriesOf, ItemsOf, StandEntries, StandItems, Stands}
use Rattle.sources.specs.declared.packed.PackedParts.{PackedParts}
use Rattle.sources.specs.declared.packed.PackedValue.{PackedValue}

pub tells_given : {P : Type 0} (stands : P → Value → Type 0) (o : Option Value) (p : code.Option P) (op : AccessOp) (a : Ask) (cause : Cause) (detail : ℕ) → FoundIn stands o p → Tells stands (outcome (found_or o (absent op (failed a cause detail)))) (absent_or p op cause)
tells_given stands (some v) (Some p) op a cause detail h = h
tells_given stands (some v) None op a cause detail h = absurd h
tells_given stands none (Some p) op a cause detail h = absurd h
tells_given stands none None Direct a cause detail h = refl
tells_given stands none None Optional a cause detail h = tt

module _ (v : Value) (op : AccessOp) where
  pub index_tells : (number : ℕ) (p : PackedParts) (there : code.Option PackedValue) → ItemsOf v (Some p) → ((vs : Items) → StandItems p vs → FoundIn Stands (nth vs number) there) → Tells Stands (part_outcome v op (index number)) (absent_or there op NoSuchIndex)
  index_tells number p there h parts =
      subst (λ w. Tells Stands (part_outcome w op (index number)) (absent_or there op NoSuchIndex)) (sym h.1)
      (tells_given Stands (nth h.0 number) there op record { op = op; wanted = index number } NoSuchIndex (count_items h.0) (parts h.0 h.2))

  pub key_tells : (name : Text) (p : PackedParts) (there : code.Option PackedValue) → EntriesOf v (Some p) → ((es : Entries) → StandEntries p es → FoundIn Stands (value_of es name) there) → Tells Stands (part_outcome v op (key name)) (absent_or there op NoSuchKey)
  key_tells name p there h parts =
      subst (λ w. Tells Stands (part_outcome w op (key name)) (absent_or there op NoSuchKey)) (sym h.1)
      (tells_given Stands (value_of h.0 name) there op record { op = op; wanted = key name } NoSuchKey 0 (parts h.0 h.2))

pub index_wrong : (v : Value) (op : AccessOp) (number : ℕ) → ItemsOf v None → Tells Stands (part_outcome v op (index number)) (Err WrongAccess)
index_wrong none_value op number h = refl
index_wrong (boolean b) op number h = refl
index_wrong (integer n) op number h = refl
index_wrong (float b) op number h = refl
index_wrong (string t) op number h = refl
index_wrong (list vs) op number h = absurd (h vs refl)
index_wrong (map es) op number h = refl

pub key_wrong : (v : Value) (op : AccessOp) (name : Text) → EntriesOf v None → Tells Stands (part_outcome v op (key name)) (Err WrongAccess)
key_wrong none_value op name h = refl
key_wrong (boolean b) op name h = refl
key_wrong (integer n) op name h = refl
key_wrong (float b) op name h = refl
key_wrong (string t) op name h = refl
key_wrong (list vs) op name h = refl
key_wrong (map es) op name h = absurd (h es refl)
