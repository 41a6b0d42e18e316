-- What was made in a store is an answer.
use Rattle.std.proofs.Common.{◌≡◌, ℕ, ◌<◌, ◌⊎◌, Result, Ok, Err, pos, to_z, w64, refl, arith}
use Rattle.std.proofs.lemmas.Int.{to_z_pos}
use Rattle.std.specs.Result.{result_or}
use Rattle.meaning.specs.Or.{gives}
use Rattle.meaning.specs.Value.{Value, none, boolean, integer, float, string, list, map}
use Rattle.meaning.specs.Charge.{cost}
use Rattle.meaning.specs.Formatters.{size, a_count}
use Rattle.store.specs.Kinds.{kind_of, size_of}
use Rattle.store.specs.Stores.{Made, PutBack}
use Rattle.store.specs.declared.cell.Ref.{Ref}
use Rattle.store.specs.declared.kinds.Kind.{Kind}
use Rattle.store.specs.declared.kinds.Kind.TheVariants as kinds
use Rattle.store.specs.declared.memory.Full.{Full}
use Rattle.store.specs.declared.memory.Store.{Store}
use Rattle.hosts.specs.Answers.{Answers, blame_of}
use Rattle.hosts.specs.declared.answer.Refusal.{Refusal}
use Rattle.hosts.specs.declared.answer.Unmade.{Unmade}
use Rattle.hosts.specs.declared.answer.Unmade.TheVariants as unmade

same_back : (s : Store) → PutBack s s
same_back s = record {
  memory = record { cells = refl; text = refl; tally = refl; cells_long = refl; text_long = refl };
  tally = refl;
  cells = refl;
  text = refl;
}

-- it was made and charged whole, or the supply is full
made_answers : {E W : Type 0} (why : E → W) (before after : Store) (v : Value) (made : Result Ref Full) (r : Result Ref (Unmade E)) → Made before after (cost v) v made → r ≡ result_or made (Err unmade.Full) → Answers why before after (gives v) r
made_answers why before after v (Ok x) r m e = rw e m
made_answers why before after v (Err full) r m e = rw e (m.0, rw m.1 (same_back before))

-- a string, a list or a map has a size
has_size : (v : Value) (k : Kind) (n : ℕ) → k ≡ kind_of v → (k ≡ kinds.String) ⊎ ((k ≡ kinds.List) ⊎ (k ≡ kinds.Map)) → n ≡ size_of v → size v ≡ a_count n
has_size none k n e h count = grind arith
has_size (boolean b) k n e h count = grind arith
has_size (integer m) k n e h count = grind arith
has_size (float bits) k n e h count = grind arith
has_size (string t) k n e h count = rw count
has_size (list xs) k n e h count = rw count
has_size (map es) k n e h count = rw count

pub size_made : (before after : Store) (v : Value) (k : Kind) (n : ℕ) (made : Result Ref Full) (r : Result Ref (Unmade Refusal)) →
    k ≡ kind_of v → (k ≡ kinds.String) ⊎ ((k ≡ kinds.List) ⊎ (k ≡ kinds.Map)) → n ≡ size_of v → n < 65536 →
    Made before after (cost (integer (to_z w64 n))) (integer (to_z w64 n)) made → r ≡ result_or made (Err unmade.Full) → Answers blame_of before after (size v) r
size_made before after v k n made r is one_of count low m e =
    rw (has_size v k n is one_of count) (made_answers blame_of before after (integer (pos n)) made r (rw (to_z_pos w64 n (omega arith)) at m) e)
