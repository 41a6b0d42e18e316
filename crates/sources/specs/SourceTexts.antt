-- What a walk finds in a value that holds well-formed text holds such text.
use Rattle.std.proofs.Common.{◌≡◌, ℕ, zero, suc, ◌/◌, Bool, true, false, cond, List, [], ◌∷◌, length, drop, refl}
use mathlib.Core.Option.{Option, none, some}
use Rattle.std.specs.Str.{bytes_eq as same_text}
use Rattle.meaning.specs.Fault.{Fault}
use Rattle.meaning.specs.Or.{Or, fails, gives}
use Rattle.meaning.specs.Parts.{count_items, nth, value_of}
use Rattle.meaning.specs.Sources.{answer, walk_of, pot, pots, pot_log}
use Rattle.meaning.specs.Value.{Value, none as none_value, boolean, integer, float, string, list, map, Items, no_items, item, Entries, no_entries, entry, Text}
use Rattle.meaning.specs.Walk.{Ask, Wanted, index, key, Walked, found, missed, failed, absent, found_or, part, part_at, walk}
use Rattle.meaning.specs.declared.fault.Cause.{Cause}
use Rattle.meaning.specs.declared.fault.Cause.TheVariants.{NoSuchIndex, NoSuchKey}
use Rattle.meaning.specs.declared.tree.AccessOp.{AccessOp}
use Rattle.meaning.specs.declared.tree.AccessOp.TheVariants.{Direct, Optional}
use Rattle.packing.specs.Rfc3629.{well_formed, completes, others_of}
use Rattle.packing.specs.Texts.{WellFormedValue, WellFormedItems, WellFormedEntries}
use Rattle.packing.specs.Unpacking.{unpack_value}
use Rattle.packing.proofs.Texts.{unpacked_value_is_text}
use Rattle.hosts.specs.Answers.{GivesText}
use Rattle.sources.specs.Packed.{unpacked, value_or_none}
use Rattle.sources.specs.Pots.{all_pots, value_of_log}

abbrev FoundText : Walked Ask → Type 0
FoundText (found v) = WellFormedValue v
FoundText missed = Unit {0}
FoundText (failed at cause detail) = Unit {0}

abbrev SomeText : Option Value → Type 0
SomeText none = Unit {0}
SomeText (some v) = WellFormedValue v

nth_text : (vs : Items) (n : ℕ) → WellFormedItems vs → SomeText (nth vs n)
nth_text no_items n h = tt
nth_text (item v vs) zero h = h.0
nth_text (item v vs) (suc n) h = nth_text vs n h.1

entry_text : (es : Entries) (k : Text) → WellFormedEntries es → SomeText (value_of es k)
entry_text no_entries k h = tt
entry_text (entry l v es) k h = by (same_text k l) (entry_text es k h.2)
  where
    by : (b : Bool) → SomeText (value_of es k) → SomeText (cond b (some v) (value_of es k))
    by true other = h.1
    by false other = other

absent_text : (o : Option Value) (op : AccessOp) (a : Ask) (c : Cause) (d : ℕ) → SomeText o → FoundText (found_or o (absent op (failed a c d)))
absent_text (some v) op a c d h = h
absent_text none Direct a c d h = tt
absent_text none Optional a c d h = tt

part_text : (v : Value) (a : Ask) (wanted : Wanted) → WellFormedValue v → FoundText (part_at a a.op v wanted)
part_text none_value a (index n) h = tt
part_text none_value a (key k) h = tt
part_text (boolean b) a (index n) h = tt
part_text (boolean b) a (key k) h = tt
part_text (integer i) a (index n) h = tt
part_text (integer i) a (key k) h = tt
part_text (float b) a (index n) h = tt
part_text (float b) a (key k) h = tt
part_text (string t) a (index n) h = tt
part_text (string t) a (key k) h = tt
part_text (list vs) a (index n) h = absent_text (nth vs n) a.op a NoSuchIndex (count_items vs) (nth_text vs n h)
part_text (list vs) a (key k) h = tt
part_text (map es) a (index n) h = tt
part_text (map es) a (key k) h = absent_text (value_of es k) a.op a NoSuchKey 0 (entry_text es k h)

walk_text : (v : Value) (path : List Ask) → WellFormedValue v → FoundText (walk (λ x. x) v path)
walk_text v [] h = h
walk_text v (a ∷ path) h = by (part (λ x. x) v a) (part_text v a a.wanted h) (λ u. walk_text u path)
  where
    by : (w : Walked Ask) → FoundText w → ((u : Value) → WellFormedValue u → FoundText (walk (λ x. x) u path)) → FoundText (elim w [ found u ↦ walk (λ x. x) u path | missed ↦ missed | failed y c d ↦ failed y c d ])
    by (found u) t onward = onward u t
    by missed t onward = tt
    by (failed y c d) t onward = tt

pub walk_of_is_text : (v : Value) (path : List Ask) → WellFormedValue v → GivesText (walk_of v path)
walk_of_is_text v path h = by (walk (λ x. x) v path) (walk_text v path h)
  where
    by : (w : Walked Ask) → FoundText w → GivesText (answer w)
    by (found u) t = t
    by missed t = tt
    by (failed y c d) t = tt

pot_text : (bytes : List ℕ) → WellFormedValue (pot bytes)
unfolding well_formed completes others_of
pot_text bytes = (refl, tt, (refl, tt, (refl, tt, (refl, tt, tt))))

pots_text : (n : ℕ) (log : List ℕ) → WellFormedItems (pots n log)
pots_text zero log = tt
pots_text (suc n) log = (pot_text log, pots_text n (drop 12 log))

pub pot_log_is_text : (log : List ℕ) (path : List Ask) → GivesText (pot_log log path)
unfolding well_formed completes others_of
pot_log_is_text log path = walk_of_is_text (value_of_log (all_pots log)) path (refl, pots_text (length log / 12) log, tt)

pub value_walk_is_text : (bytes : List ℕ) (path : List Ask) → GivesText (walk_of (unpacked bytes) path)
value_walk_is_text bytes path = walk_of_is_text (unpacked bytes) path (by (unpack_value bytes) (unpacked_value_is_text bytes))
  where
    by : (o : Or Fault Value) → ((v : Value) → o ≡ gives v → WellFormedValue v) → WellFormedValue (value_or_none o)
    by (gives v) text = text v refl
    by (fails f) text = tt
