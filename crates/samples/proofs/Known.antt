-- What was found is known, and what was made of a map is one.
use Rattle.std.proofs.Common.{◌≡◌, Some, Ok, Err, Result, ap, ◌∙◌}
use mathlib.Core.Option.{Option, none, some}
use Rattle.loading.specs.Loading.{Loads}
use Rattle.meaning.specs.Charge.{Charge, one_cell}
use Rattle.meaning.specs.Fault.{Fault}
use Rattle.meaning.specs.Or.{Or, fails, gives}
use Rattle.meaning.specs.Value.{Value, Text, none as none_value, boolean, integer, float, string, list, map, no_entries}
use Rattle.store.specs.Kinds.{kind_of}
use Rattle.store.specs.Stores.{Found, Known, Made, Over}
use Rattle.store.specs.Values.{inserted}
use Rattle.store.specs.declared.cell.Ref.{Ref}
use Rattle.store.specs.declared.kinds.Kind.{Kind}
use Rattle.store.specs.declared.memory.Full.{Full}
use Rattle.store.specs.declared.memory.Store.{Store}
use Rattle.store.proofs.Stores.{known_over}
use Rattle.samples.specs.Known.{MapKnown, MapMade}

pub found_known : (s : Store) (o : Option Value) (r : Ref) → Found s o (Some r) → Known s r
found_known s (some v) r h = h.0
found_known s none r h = absurd h

inserted_kind : (v : Value) (k : Text) (x : Value) → kind_of v ≡ Kind.Map → kind_of (inserted v k x) ≡ Kind.Map
inserted_kind none_value k x h = cc
inserted_kind (boolean b) k x h = cc
inserted_kind (integer n) k x h = cc
inserted_kind (float b) k x h = cc
inserted_kind (string t) k x h = cc
inserted_kind (list xs) k x h = cc
inserted_kind (map es) k x h = h

pub map_over : (a b : Store) (r : Ref) → Over a b → MapKnown a r → MapKnown b r
map_over a b r o m = (known_over a b r o m.0, ap kind_of (o.keeps r m.0) ∙ m.1)

pub map_made : (a b : Store) (more : Charge) (k : Text) (m x : Value) (r : Result Ref Full) → kind_of m ≡ Kind.Map → Made a b more (inserted m k x) r → MapMade b r
map_made a b more k m x (Ok r) h made = (made.1.known, ap kind_of made.1.means ∙ inserted_kind m k x h)
map_made a b more k m x (Err full) h made = tt

pub empty_made : (a b : Store) (r : Ref) → Made a b one_cell (map no_entries) (Ok r) → MapKnown b r
empty_made a b r made = (made.1.known, ap kind_of made.1.means)

-- what was loaded is known
pub load_known : (a b : Store) (o : Or Fault Value) (r : Ref) → Loads a b o (Ok r) → Known b r
load_known a b (gives v) r h = h.known
load_known a b (fails f) r h = absurd h
