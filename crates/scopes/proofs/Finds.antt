-- What is found, as code answers it.
use Rattle.std.proofs.Common.{◌≡◌, ℕ, ◌+◌, ◌≤◌, min, Bool, true, false, List, [], ◌∷◌, map as each, length, Some, Ok, Err, Result, sym, refl, ap, ◌∙◌, add-zero, arith, le-leb}
use Rattle.std.specs.Str.{bytes_eq as same_text}
use Rattle.std.specs.declared.option.Option as code_option
use native.Mathlib.Nat.{le-min}
use Rattle.std.proofs.lemmas.List.{take_all}
use Rattle.machine.specs.Machine.{Kind as Shown}
use Rattle.meaning.specs.Charge.{Charge, ◌⊕◌, cost, free, within}
use Rattle.meaning.specs.Fault.{Fault, fault_at}
use Rattle.meaning.specs.FaultRecords.{fault_of}
use Rattle.meaning.specs.Hosts.{Reason, ValueSource}
use Rattle.meaning.specs.Or.{Or, fails, gives}
use Rattle.meaning.specs.Scopes.{Had, Visible, parts_of, named, asking, stored, made, ask, answered, walked, look_up, no_further, loop_member, loop_variable}
use Rattle.meaning.specs.Spans.{access_span, text_at}
use Rattle.meaning.specs.Tree as tree
use Rattle.meaning.specs.Value.{Value, Text, none as none_value}
use Rattle.meaning.specs.Walk.{Walked, found, missed, failed, part}
use Rattle.meaning.specs.declared.fault.Cause.TheVariants.{StoreFull, Refused, NoParts}
use Rattle.meaning.specs.declared.fault.Fault as code
use Rattle.meaning.specs.declared.tree.Member.{Member}
use Rattle.meaning.specs.declared.tree.Span.{Span}
use Rattle.reader.specs.Fields.{as_it_is, members_of}
use Rattle.store.specs.Kinds.{byte_of, kind_of}
use Rattle.store.specs.Stores.{Added, Known, Over, PutBack, cells_of, supply, text_of, used, value}
use Rattle.store.specs.declared.cell.Ref.{Ref}
use Rattle.store.specs.declared.kinds.Kind.{Kind}
use Rattle.store.specs.declared.memory.Store.{Store}
use Rattle.store.proofs.Lists.{kind_byte}
use Rattle.store.proofs.Stores.{cells_count, charge_is, over_itself, text_count}
use Rattle.hosts.specs.Answers as hosts
use Rattle.hosts.specs.declared.answer.Unmade.TheVariants as unmade
use Rattle.lookup.specs.Paths as lookup
use Rattle.scopes.specs.Looping.{Gives, NoFurther, member_of}
use Rattle.scopes.specs.Searching.{Has, Answers, Searches, looked_up}
use Rattle.scopes.specs.declared.loop_value.LoopMember.{LoopMember}
use Rattle.scopes.specs.declared.var.Var.{Var}

module _ (s : Store) (span : Span) where
  -- what stands in the store takes nothing more of it
  nothing_more : within (supply s) (used s ⊕ free) ≡ true
  nothing_more =
      let cells : (used s).cells + 0 ≤ min 65535 (length s.cells.now) = le-min (omega (arith, s.supplied.cells_fit)) (omega (arith, s.supplied.cells_fit)) in
      let bytes : (used s).bytes + 0 ≤ min 65535 (length s.text.now) = le-min (omega (arith, s.supplied.bytes_fit)) (omega (arith, s.supplied.bytes_fit)) in
      rw (le-leb _ _ cells, le-leb _ _ bytes)

  pub has_stored : (v : Value) (r : Ref) → Known s r → value s r ≡ v → Has s s span (gives (stored v)) (Ok r)
  has_stored v r known means = rw nothing_more (record { over = over_itself s; known = known; means = means; paid = charge_is (sym (add-zero _)) (sym (add-zero _)) })

  pub has_fault : (f : Fault) (g : code.Fault) → fault_of g ≡ f → Has s s span (fails f) (Err g)
  has_fault f g e = record { over = over_itself s; is = e }

pub has_as : (before after : Store) (span : Span) {found found' : Or Fault Had} (r : Result Ref code.Fault) → found ≡ found' → Has before after span found' r → Has before after span found r
has_as before after span r e h = rw e h

pub answers_as : (before after : Store) (span : Span) {here here' : Or Fault Had} (outward : Or Fault Had) (r : Result (code_option.Option Ref) code.Fault)
    → here ≡ here' → Answers before after span here' outward r → Answers before after span here outward r
answers_as before after span outward r e a = rw e a

-- WHERE IT IS FOUND

module _ (source : List ℕ) (outer : List Visible) (v : tree.Var) where
  pub found_in_scope : (s : Store) (w : Value) (p : Ref) → lookup.Tells s (part (ask source) w v.first) (Ok (Some p)) → look_up source (parts_of w ∷ outer) v ≡ walked source (value s p) v.rest
  unfolding look_up
  found_in_scope s w p t = by (part (ask source) w v.first) t
    where
      by : (at : Walked Member) → lookup.Tells s at (Ok (Some p))
          → elim at [ found u ↦ walked source u v.rest | missed ↦ gives (stored none_value) | failed m c d ↦ look_up source outer v ] ≡ walked source (value s p) v.rest
      by (found u) t = ap (λ x. walked source x v.rest) (sym t.1)
      by missed t = absurd t
      by (failed m c d) t = absurd t

  pub found_under_name : (name : Text) (w : Value) → same_text name (text_at source (access_span v.first.access)) ≡ true → look_up source (named name w ∷ outer) v ≡ walked source w v.rest
  unfolding look_up
  found_under_name name w e = by (same_text name (text_at source (access_span v.first.access))) e
    where
      by : (same : Bool) → same ≡ true → elim same [ true ↦ walked source w v.rest | false ↦ look_up source outer v ] ≡ walked source w v.rest
      by true e = refl
      by false e = cc

-- WHAT IS MADE FOR IT

-- a store that was put back has what it had
pub back_over : (a b : Store) → PutBack a b → Over a b
back_over a b p = record {
  memory = p.memory;
  cells_under = rw p.cells (take_all (used a).cells (cells_of a) (omega (arith, cells_count a)));
  text_under = rw p.text (take_all (used a).bytes (text_of a) (omega (arith, text_count a)));
  keeps = λ r k. rw (p.cells, p.text);
}

module _ (before after : Store) (source : List ℕ) (span : Span) where
  pub has_made : (v : Value) (r : Ref) → within (supply before) (used before ⊕ cost v) ≡ true → Added before after (cost v) v r → Has before after span (gives (made v)) (Ok r)
  has_made v r room a = rw room (record { over = a.grown.over; known = a.known; means = a.means; paid = a.grown.paid })

  pub has_no_room : (v : Value) (more : Charge) (g : code.Fault) → within (supply before) (used before ⊕ more) ≡ false → Over before after → fault_of g ≡ fault_at StoreFull span 0
      → Has before after span (gives (v, more)) (Err g)
  has_no_room v more g room over e = rw room (record { over = over; is = e })

  pub source_has : (o : Or Reason Value) (r : Ref) → hosts.Answers as_it_is before after o (Ok r) → Has before after span (answered source span o) (Ok r)
  source_has (gives v) r a = has_made v r a.0 a.1
  source_has (fails reason) r a = absurd a

  pub source_is_full : (o : Or Reason Value) (g : code.Fault) → fault_of g ≡ fault_at StoreFull span 0 → hosts.Answers as_it_is before after o (Err unmade.Full) → Has before after span (answered source span o) (Err g)
  source_is_full (gives v) g e a = has_no_room v (cost v) g a.0 (back_over before after a.1) e
  source_is_full (fails reason) g e a = absurd a

  pub source_refuses : (o : Or Reason Value) (reason : Reason) (g : code.Fault) → fault_of g ≡ fault_at Refused span reason → hosts.Answers as_it_is before after o (Err (unmade.Refused reason)) → Has before after span (answered source span o) (Err g)
  source_refuses (gives v) reason g e a = absurd a
  source_refuses (fails why) reason g e a = record { over = back_over before after a.1; is = e ∙ ap (fault_at Refused span) a.0 }

pub asked : (from : ValueSource) (outer : List Visible) (v : Var) → looked_up v (asking from ∷ outer) ≡ answered v.source.now v.span (from (each (ask v.source.now) (members_of v.path)))
unfolding look_up
asked from outer v = rw (v.whole, v.least)

-- WHAT HAS NO PARTS

module _ (s : Store) (source : List ℕ) (span : Span) where
  pub none_further : (byte : ℕ) (ms : List Member) (had : Or Fault Had) (done : Unit {0}) → NoFurther byte ms (Ok done) → no_further source had ms ≡ had
  none_further byte [] had done t = refl
  none_further byte (m ∷ ms) had done t = absurd t

  pub one_further : (kind : Kind) (ms : List Member) (v : Value) (more : Charge) (g : code.Fault) → kind ≡ kind_of v → NoFurther (byte_of kind) ms (Err g)
      → Has s s span (no_further source (gives (v, more)) ms) (Err g)
  one_further kind [] v more g is t = absurd t
  one_further kind (m ∷ ms) v more g is t = has_fault s span _ g (t ∙ ap (fault_at NoParts m.span) (ap byte_of is ∙ kind_byte v))

  pub had_already : (o : Or Fault Had) (x : LoopMember) → Gives o (Ok x) → o ≡ gives (made (member_of x))
  had_already (gives had) x e = ap gives e
  had_already (fails f) x e = absurd e

  pub member_stops : (o : Or Fault Had) (ms : List Member) (g : code.Fault) → Gives o (Err g) → Has s s span (no_further source o ms) (Err g)
  member_stops (gives had) ms g e = absurd e
  member_stops (fails f) [] g e = has_fault s span f g e
  member_stops (fails f) (m ∷ ms) g e = has_fault s span f g e

  pub loop_alone : (loop : Value) (ms : List Member) → ms ≡ [] → loop_variable source loop ms ≡ gives (made loop)
  loop_alone loop ms e = rw e

  pub loop_with : (loop : Value) (ms ms' : List Member) (m : Member) → ms ≡ m ∷ ms' → loop_variable source loop ms ≡ no_further source (loop_member source loop m m.access) ms'
  loop_with loop ms ms' m e = rw e

pub searches_as : (before after : Store) (v : Var) {k k' : Shown} (r : Result (code_option.Option Ref) code.Fault) → k ≡ k' → Searches before after v k' r → Searches before after v k r
searches_as before after v r e a = rw e a
