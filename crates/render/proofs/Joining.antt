-- Lists and maps under construction: what is not one of them is stuck.
use Rattle.std.proofs.Common.{◌≡◌, refl}
use Rattle.meaning.specs.Value.{Text, Value, none, boolean, integer, float, string, list, map}
use Rattle.machine.specs.Machine.{Next, into_list, into_map, stuck}
use Rattle.store.specs.Kinds.{kind_of}
use Rattle.store.specs.Values.{inserted, pushed}
use Rattle.store.specs.declared.kinds.Kind.TheVariants as kinds

module _ {M : Type 0} where
  pub list_kind : (w v : Value) (next : Value → Next M) → ¬ (into_list v w next ≡ stuck) → kind_of w ≡ kinds.List
  list_kind none v next goes = absurd (goes refl)
  list_kind (boolean b) v next goes = absurd (goes refl)
  list_kind (integer n) v next goes = absurd (goes refl)
  list_kind (float bits) v next goes = absurd (goes refl)
  list_kind (string t) v next goes = absurd (goes refl)
  list_kind (list xs) v next goes = refl
  list_kind (map es) v next goes = absurd (goes refl)

  pub map_kind : (key : Text) (w v : Value) (next : Value → Next M) → ¬ (into_map key v w next ≡ stuck) → kind_of w ≡ kinds.Map
  map_kind key none v next goes = absurd (goes refl)
  map_kind key (boolean b) v next goes = absurd (goes refl)
  map_kind key (integer n) v next goes = absurd (goes refl)
  map_kind key (float bits) v next goes = absurd (goes refl)
  map_kind key (string t) v next goes = absurd (goes refl)
  map_kind key (list xs) v next goes = absurd (goes refl)
  map_kind key (map es) v next goes = refl

  pub into_list_is : (w v : Value) (next : Value → Next M) → kind_of w ≡ kinds.List → into_list v w next ≡ next (pushed w v)
  into_list_is none v next e = absurd cc
  into_list_is (boolean b) v next e = absurd cc
  into_list_is (integer n) v next e = absurd cc
  into_list_is (float bits) v next e = absurd cc
  into_list_is (string t) v next e = absurd cc
  into_list_is (list xs) v next e = refl
  into_list_is (map es) v next e = absurd cc

  pub into_map_is : (key : Text) (w v : Value) (next : Value → Next M) → kind_of w ≡ kinds.Map → into_map key v w next ≡ next (inserted w key v)
  into_map_is key none v next e = absurd cc
  into_map_is key (boolean b) v next e = absurd cc
  into_map_is key (integer n) v next e = absurd cc
  into_map_is key (float bits) v next e = absurd cc
  into_map_is key (string t) v next e = absurd cc
  into_map_is key (list xs) v next e = absurd cc
  into_map_is key (map es) v next e = refl
