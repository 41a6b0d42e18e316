-- The variable `loop`, made part by part.
use Rattle.std.proofs.Common.{◌≡◌, ℕ, suc, min, List, Some, None, Ok, Err, Result, sym, refl, ap, ap₂, ◌∙◌, pos, ◌==◌, arith, codes}
use Rattle.std.proofs.Math.Option.{Option}
use Rattle.std.specs.declared.option.Option as code_option
use Rattle.meaning.specs.Bytes.{precedes}
use Rattle.meaning.specs.Charge.{Charge, ◌⊕◌, one_cell, cell_and_text, cost, within}
use Rattle.meaning.specs.Fault.{fault_at}
use Rattle.meaning.specs.FaultRecords.{fault_of, given}
use Rattle.meaning.specs.Parts.{value_of}
use Rattle.meaning.specs.Scopes.{Current, Turn, loop_value, loop_member, had_or_fault, wanted_by, made}
use Rattle.meaning.specs.Spans.{text_at}
use Rattle.meaning.specs.Value.{Value, Text, boolean, integer, map, no_entries}
use Rattle.meaning.specs.Walk.{absent, failed, found_or, part_at}
use Rattle.meaning.specs.declared.fault.Cause.TheVariants.{NoSuchKey}
use Rattle.meaning.specs.declared.fault.Fault as code_fault
use Rattle.meaning.specs.declared.tree.Access.{Access}
use Rattle.meaning.specs.declared.tree.Access.TheVariants.{Key}
use Rattle.meaning.specs.declared.tree.AccessOp.TheVariants.{Direct, Optional}
use Rattle.meaning.specs.declared.tree.Member.{Member}
use Rattle.meaning.specs.declared.tree.Span.{Span}
use Rattle.store.specs.Stores.{Added, Made, Over, supply, used, value}
use Rattle.store.specs.Values.{inserted}
use Rattle.store.specs.declared.cell.Ref.{Ref}
use Rattle.store.specs.declared.memory.Full.{Full}
use Rattle.store.specs.declared.memory.Store.{Store}
use Rattle.store.proofs.Stores.{charge_is, cells_paid, bytes_paid, grown_trans, over_same, over_trans}
use Rattle.scopes.specs.Entries.{entries_of}
use Rattle.scopes.specs.Looping.{Builds, Gives, member_of, turn_of}
use Rattle.scopes.specs.declared.loop_value.LoopMember.{LoopMember}
use Rattle.scopes.specs.declared.loop_value.LoopMember.TheVariants as members
use Rattle.scopes.specs.declared.loop_value.Turn as code_turn

pub supply_over : (a b : Store) → Over a b → supply b ≡ supply a
supply_over a b o = charge_is (ap (min 65535) o.memory.cells_long) (ap (min 65535) o.memory.text_long)

module _ (a b c : Store) (m n : Charge) (v w : Value) (x : Ref) where
  same_room : Added a b m v x → within (supply a) (used a ⊕ (m ⊕ n)) ≡ within (supply b) (used b ⊕ n)
  same_room first = ap₂ within (sym (supply_over a b first.grown.over)) (charge_is (omega (arith, cells_paid first.grown.paid)) (omega (arith, bytes_paid first.grown.paid)))

  added_then : (y : Ref) → Added a b m v x → Added b c n w y → Added a c (m ⊕ n) w y
  added_then y first second = record { grown = grown_trans a b c first.grown second.grown; known = second.known; means = second.means }

  pub builds_then : (r : Result Ref Full) → Added a b m v x → Builds b c n w r → Builds a c (m ⊕ n) w r
  builds_then (Ok y) first second =
      (same_room first ∙ second.0, added_then y first second.1)
  builds_then (Err full) first second = (same_room first ∙ second.0, over_trans a b c first.grown.over second.1)

pub made_builds : (a b : Store) (more : Charge) (v : Value) (r : Result Ref Full) → Made a b more v r → Builds a b more v r
made_builds a b more v (Ok x) m = m
made_builds a b more v (Err full) m = (m.0, over_same a b m.1)

pub builds_as : (a b : Store) {m n : Charge} {v w : Value} (r : Result Ref Full) → m ≡ n → v ≡ w → Builds a b m v r → Builds a b n w r
builds_as a b r e f h = rw (← e, ← f) h

abbrev first_key : List ℕ
first_key = codes "first"

abbrev index_key : List ℕ
index_key = codes "index"

abbrev last_key : List ℕ
last_key = codes "last"

module _ (a b c d e : Store) (t : code_turn.Turn) (current : Current) (empty with_first with_index : Ref) where
  all_members : inserted (inserted (inserted (map no_entries) first_key (boolean (t.position == 0))) index_key (integer (pos t.position))) last_key (boolean (suc t.position == t.length))
      ≡ loop_value (turn_of t current)
  unfolding precedes
  all_members = refl

  whole : (r : Result Ref Full)
      → Made a b one_cell (map no_entries) (Ok empty)
      → Builds b c (one_cell ⊕ cell_and_text first_key) (inserted (value b empty) first_key (boolean (t.position == 0))) (Ok with_first)
      → Builds c d (one_cell ⊕ cell_and_text index_key) (inserted (value c with_first) index_key (integer (pos t.position))) (Ok with_index)
      → Builds d e (one_cell ⊕ cell_and_text last_key) (inserted (value d with_index) last_key (boolean (suc t.position == t.length))) r
      → Builds a e (cost (loop_value (turn_of t current))) (loop_value (turn_of t current)) r
  whole r m₀ m₁ m₂ m₃ =
      let first : value c with_first ≡ inserted (map no_entries) first_key (boolean (t.position == 0)) =
      m₁.1.means ∙ ap (λ (u : Value). inserted u first_key (boolean (t.position == 0))) m₀.1.means in
      let second : value d with_index ≡ inserted (inserted (map no_entries) first_key (boolean (t.position == 0))) index_key (integer (pos t.position)) =
      m₂.1.means ∙ ap (λ (u : Value). inserted u index_key (integer (pos t.position))) first in
      let one = added_then a b c _ _ _ _ empty with_first m₀.1 m₁.1 in
      let two = added_then a c d _ _ _ _ with_first with_index one m₂.1 in
      let three = builds_then a d e _ _ _ _ with_index r two m₃ in
      builds_as a e r refl (ap (λ (u : Value). inserted u last_key (boolean (suc t.position == t.length))) second ∙ all_members) three

  pub loop_builds : (v₁ v₂ v₃ : Value) (r : Result Ref Full)
      → Made a b one_cell (map no_entries) (Ok empty)
      → Builds b c (cost v₁ ⊕ cell_and_text first_key) (inserted (value b empty) first_key v₁) (Ok with_first)
      → Builds c d (cost v₂ ⊕ cell_and_text index_key) (inserted (value c with_first) index_key v₂) (Ok with_index)
      → Builds d e (cost v₃ ⊕ cell_and_text last_key) (inserted (value d with_index) last_key v₃) r
      → v₁ ≡ boolean (t.position == 0) → v₂ ≡ integer (pos t.position) → v₃ ≡ boolean (suc t.position == t.length)
      → Builds a e (cost (loop_value (turn_of t current))) (loop_value (turn_of t current)) r
  loop_builds v₁ v₂ v₃ r m₀ m₁ m₂ m₃ e₁ e₂ e₃ = whole r m₀ (rw e₁ at m₁) (rw e₂ at m₂) (rw e₃ at m₃)

-- ONE MEMBER OF IT

module _ (source : List ℕ) (t : Turn) (m : Member) (name : Span) (text : Text) (o : code_option.Option LoopMember) (keyed : m.access ≡ Key name) (there : text ≡ text_at source name)
    (same : given member_of o ≡ value_of (entries_of (loop_value t)) text) where
  asked_by_name : loop_member source (loop_value t) m m.access ≡ had_or_fault source (found_or (given member_of o) (absent m.op (failed m NoSuchKey 0))) made
  asked_by_name =
      ap (loop_member source (loop_value t) m) keyed
      ∙ ap (λ (a : Access). had_or_fault source (part_at m m.op (loop_value t) (wanted_by source a)) made) keyed
      ∙ ap (λ (k : Text). had_or_fault source (found_or (value_of (entries_of (loop_value t)) k) (absent m.op (failed m NoSuchKey 0))) made) (sym there)
      ∙ ap (λ (w : Option Value). had_or_fault source (found_or w (absent m.op (failed m NoSuchKey 0))) made) (sym same)

  pub member_found : (x : LoopMember) → o ≡ Some x → Gives (loop_member source (loop_value t) m m.access) (Ok x)
  member_found x is = rw (asked_by_name, is) refl

  pub member_absent : o ≡ None → m.op ≡ Optional → Gives (loop_member source (loop_value t) m m.access) (Ok members.Absent)
  member_absent is op = rw (asked_by_name, is, op) refl

  pub member_faults : (g : code_fault.Fault) → o ≡ None → m.op ≡ Direct → fault_of g ≡ fault_at NoSuchKey m.span 0 → Gives (loop_member source (loop_value t) m m.access) (Err g)
  member_faults g is op e = rw (asked_by_name, is, op) e
