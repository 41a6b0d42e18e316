-- One member of a walk, one turn of it, and the walk of bare asks.
use Rattle.std.proofs.Common.{◌≡◌, ℕ, List, [], ◌∷◌, map as each, Some, None, Ok, Err, Result, unwrap_or, sym, refl, ap, ◌∙◌, arith}
use mathlib.Core.Option.{Option, none, some}
use Rattle.std.specs.declared.option.Option as code_option
use Rattle.meaning.specs.Fault.{fault_at, number}
use Rattle.meaning.specs.FaultRecords.{fault_of}
use Rattle.meaning.specs.Hosts.{Reason}
use Rattle.meaning.specs.Or.{Or}
use Rattle.meaning.specs.Parts.{kind}
use Rattle.meaning.specs.Sources.{answer}
use Rattle.meaning.specs.Value.{Value, none as none_value, boolean, integer, float, string, list, map, Text}
use Rattle.meaning.specs.Walk.{Ask, Wanted, index, key, Walked, found, missed, failed, absent, found_or, part_at, part, walk}
use Rattle.meaning.specs.declared.fault.Cause.{Cause}
use Rattle.meaning.specs.declared.fault.Cause.TheVariants.{NoSuchKey, NoSuchIndex, WrongAccess}
use Rattle.meaning.specs.declared.fault.Fault as code
use Rattle.meaning.specs.declared.tree.AccessOp.{AccessOp}
use Rattle.meaning.specs.declared.tree.AccessOp.TheVariants.{Direct, Optional}
use Rattle.meaning.specs.declared.tree.Member.{Member}
use Rattle.store.specs.Kinds.{kind_of, byte_of, size_of}
use Rattle.store.specs.Stores.{Found}
use Rattle.store.specs.Values.{part_of, entry_in}
use Rattle.store.specs.declared.cell.Ref.{Ref}
use Rattle.store.specs.declared.cell.Ref.TheVariants.{None as Nothing}
use Rattle.store.specs.declared.kinds.Kind.{Kind}
use Rattle.store.specs.declared.memory.Store.{Store}
use Rattle.lookup.specs.Paths.{Tells, Answers, answered}

pub tells_as : (s : Store) {w w' : Walked Member} {r r' : Result (code_option.Option Ref) code.Fault} → w ≡ w' → r ≡ r' → Tells s w' r' → Tells s w r
tells_as s e f t = rw (e, f) t

-- ONE MEMBER

pub tells_given : (s : Store) (o : Option Value) (p : code_option.Option Ref) (op : AccessOp) (m : Member) (cause : Cause) (detail : ℕ) (f : code.Fault) → Found s o p → fault_of f ≡ fault_at cause m.span detail → Tells s (found_or o (absent op (failed m cause detail))) (answered p op f)
tells_given s (some v) (Some r) op m cause detail f h e = h
tells_given s (some v) None op m cause detail f h e = absurd h
tells_given s none (Some r) op m cause detail f h e = absurd h
tells_given s none None Direct m cause detail f h e = e
tells_given s none None Optional m cause detail f h e = tt

module _ (m : Member) (op : AccessOp) where
  pub index_list : (v : Value) (n : ℕ) → kind_of v ≡ Kind.List → part_at m op v (index n) ≡ found_or (part_of v n) (absent op (failed m NoSuchIndex (size_of v)))
  index_list none_value n h = absurd (omega (arith, ap byte_of h))
  index_list (boolean b) n h = absurd (omega (arith, ap byte_of h))
  index_list (integer k) n h = absurd (omega (arith, ap byte_of h))
  index_list (float b) n h = absurd (omega (arith, ap byte_of h))
  index_list (string t) n h = absurd (omega (arith, ap byte_of h))
  index_list (list xs) n h = refl
  index_list (map es) n h = absurd (omega (arith, ap byte_of h))

  pub index_other : (v : Value) (n : ℕ) → (kind_of v ≡ Kind.List → ⊥) → part_at m op v (index n) ≡ failed m WrongAccess (kind v)
  index_other none_value n h = refl
  index_other (boolean b) n h = refl
  index_other (integer k) n h = refl
  index_other (float b) n h = refl
  index_other (string t) n h = refl
  index_other (list xs) n h = absurd (h refl)
  index_other (map es) n h = refl

  pub key_map : (v : Value) (k : Text) → kind_of v ≡ Kind.Map → part_at m op v (key k) ≡ found_or (entry_in v k) (absent op (failed m NoSuchKey 0))
  key_map none_value k h = absurd (omega (arith, ap byte_of h))
  key_map (boolean b) k h = absurd (omega (arith, ap byte_of h))
  key_map (integer n) k h = absurd (omega (arith, ap byte_of h))
  key_map (float b) k h = absurd (omega (arith, ap byte_of h))
  key_map (string t) k h = absurd (omega (arith, ap byte_of h))
  key_map (list xs) k h = absurd (omega (arith, ap byte_of h))
  key_map (map es) k h = refl

  pub key_other : (v : Value) (k : Text) → (kind_of v ≡ Kind.Map → ⊥) → part_at m op v (key k) ≡ failed m WrongAccess (kind v)
  key_other none_value k h = refl
  key_other (boolean b) k h = refl
  key_other (integer n) k h = refl
  key_other (float b) k h = refl
  key_other (string t) k h = refl
  key_other (list xs) k h = refl
  key_other (map es) k h = absurd (h refl)

-- ONE TURN

abbrev pub onward : {X : Type 0} → Walked X → (Value → Walked X) → Walked X
onward (found v) next = next v
onward missed next = missed
onward (failed x cause detail) next = failed x cause detail

module _ {X : Type 0} (ask : X → Ask) where
  pub turn : (v : Value) (x : X) (xs : List X) → walk ask v (x ∷ xs) ≡ onward (part ask v x) (λ w. walk ask w xs)
  turn v x xs = by (part ask v x)
    where
      by : (w : Walked X) → elim w [ found u ↦ walk ask u xs | missed ↦ missed | failed y c d ↦ failed y c d ] ≡ onward w (λ u. walk ask u xs)
      by (found u) = refl
      by missed = refl
      by (failed y c d) = refl

pub turn_fault : (s : Store) (next : Value → Walked Member) (w : Walked Member) (f : code.Fault) → Tells s w (Err f) → Tells s (onward w next) (Err f)
turn_fault s next (found v) f t = absurd t
turn_fault s next missed f t = absurd t
turn_fault s next (failed m c d) f t = t

-- THE WALK OF BARE ASKS

-- the same walk, over what f makes of the members
abbrev pub carried : {X Y : Type 0} → (X → Y) → Walked X → Walked Y
carried f (found v) = found v
carried f missed = missed
carried f (failed x cause detail) = failed (f x) cause detail

module _ {X Y : Type 0} (f : X → Y) where
  absent_carried : (x : X) (op : AccessOp) (o : Option Value) (c : Cause) (d : ℕ) → found_or o (absent op (failed (f x) c d)) ≡ carried f (found_or o (absent op (failed x c d)))
  absent_carried x op (some v) c d = refl
  absent_carried x Direct none c d = refl
  absent_carried x Optional none c d = refl

  part_carried : (x : X) (op : AccessOp) (v : Value) (w : Wanted) → part_at (f x) op v w ≡ carried f (part_at x op v w)
  part_carried x op none_value (index n) = refl
  part_carried x op none_value (key k) = refl
  part_carried x op (boolean b) (index n) = refl
  part_carried x op (boolean b) (key k) = refl
  part_carried x op (integer i) (index n) = refl
  part_carried x op (integer i) (key k) = refl
  part_carried x op (float b) (index n) = refl
  part_carried x op (float b) (key k) = refl
  part_carried x op (string t) (index n) = refl
  part_carried x op (string t) (key k) = refl
  part_carried x op (list xs) (index n) = absent_carried x op _ NoSuchIndex _
  part_carried x op (list xs) (key k) = refl
  part_carried x op (map es) (index n) = refl
  part_carried x op (map es) (key k) = absent_carried x op _ NoSuchKey 0

module _ {X : Type 0} (ask : X → Ask) where
  pub walk_carried : (v : Value) (xs : List X) → walk (λ x. x) v (each ask xs) ≡ carried ask (walk ask v xs)
  walk_carried v [] = refl
  walk_carried v (x ∷ xs) =
      turn (λ a. a) v (ask x) (each ask xs)
      ∙ ap (λ w. onward w (λ u. walk (λ a. a) u (each ask xs))) (part_carried ask x (ask x).op v (ask x).wanted)
      ∙ by (part ask v x) (λ u. walk_carried u xs)
      ∙ ap (carried ask) (sym (turn ask v x xs))
    where
      by : (w : Walked X) → ((u : Value) → walk (λ a. a) u (each ask xs) ≡ carried ask (walk ask u xs)) → onward (carried ask w) (λ u. walk (λ a. a) u (each ask xs)) ≡ carried ask (onward w (λ u. walk ask u xs))
      by (found u) again = again u
      by missed again = refl
      by (failed y c d) again = refl

-- what a value answers as a source
pub answers_value : (s : Store) (ask : Member → Ask) (w : Walked Member) (o : code_option.Option Ref) (r : Ref) → r ≡ unwrap_or o Nothing → Tells s w (Ok o) → Answers s (answer (carried ask w)) (Ok r)
answers_value s ask (found v) (Some q) r e t = rw e t
answers_value s ask (found v) None r e t = absurd t
answers_value s ask missed (Some q) r e t = absurd t
answers_value s ask missed None r e t = rw e (refl, refl)
answers_value s ask (failed m c d) o r e t = absurd t

pub answers_reason : (s : Store) (ask : Member → Ask) (w : Walked Member) (f : code.Fault) (n : ℕ) → n ≡ number f.cause → Tells s w (Err f) → Answers s (answer (carried ask w)) (Err n)
answers_reason s ask (found v) f n e t = absurd t
answers_reason s ask missed f n e t = absurd t
answers_reason s ask (failed m c d) f n e t = e ∙ ap (λ g. number g.cause) t

pub answers_as : (s : Store) {o p : Or Reason Value} (r : Result Ref ℕ) → o ≡ p → Answers s p r → Answers s o r
answers_as s r e a = rw e a
