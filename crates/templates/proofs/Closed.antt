-- The table after a gap was closed.
use Rattle.std.proofs.Common.{◌≡◌, ℕ, suc, ◌+◌, ◌-◌, ◌<◌, ◌≤◌, true, false, List, ◌++◌, length, take, drop, Ok, Err, vec_items, sym, refl, ap, subst, ◌∙◌, ap₂, append_assoc, add-one, arith, length-append, length-drop}
use Rattle.std.proofs.Math.Seq.{take-append_seam}
use Rattle.std.proofs.lemmas.List.{take-append-drop, take-take, drop-drop, length-take, length-take-le}
use Rattle.std.proofs.lemmas.Slice.{between_is}
use Rattle.meaning.specs.Charge.{Charge}
use Rattle.meaning.specs.Fault.{Fault, fault}
use Rattle.meaning.specs.FaultRecords.{fault_of}
use Rattle.meaning.specs.Names.{name_of}
use Rattle.meaning.specs.Or.{Or, fails, gives}
use Rattle.meaning.specs.Reading.{find}
use Rattle.meaning.specs.Value.{Text, Value}
use Rattle.meaning.specs.declared.fault.Cause.TheVariants.{UnknownName}
use Rattle.meaning.specs.declared.fault.Fault as code
use Rattle.meaning.specs.declared.name.Name.{Name}
use Rattle.compiler.specs.declared.instr.Instr.{Instr}
use Rattle.model.specs.Model.{Model, found_template, removed, with_templates, without}
use Rattle.templates.specs.Entries.{all_sound, closed, held, named, times, Apart, First}
use Rattle.templates.specs.Held.{Leaves, WellNamed, entries_of, model_of, templates_of}
use Rattle.templates.specs.declared.entry.Entry.{Entry}
use Rattle.templates.specs.declared.table.Templates.{Templates}
use Rattle.templates.proofs.Adding.{refused_left}
use Rattle.templates.proofs.Kept.{sound_join, sound_take, sound_drop}
use Rattle.templates.proofs.Names.{find_none, find_first, without_first}
use Rattle.templates.proofs.Spots.{times_append}

module _ (es : List Entry) (at end : ℕ) (h : at < end) (room : end ≤ length es) where
  abbrev part : List Entry
  part = take (end - at) (drop at es)

  abbrev first : List Entry
  first = take 1 part

  abbrev others : List Entry
  others = drop 1 part

  abbrev rest : List Entry
  rest = drop end es

  -- the entry in the gap stands behind the others
  closed_is : closed es at end ≡ (take at es ++ others) ++ (first ++ rest)
  closed_is = ap (λ (x : List Entry). take at es ++ x) (append_assoc others first rest) ∙ sym (append_assoc (take at es) others (first ++ rest))

  -- what is used then
  pub left_used : take (end - 1) (closed es at end) ≡ take at (take end es) ++ drop (suc at) (take end es)
  left_used =
      let size : length (take at es ++ others) ≡ end - 1 = simp (length-append, length-drop) (omega (arith, length-take-le at es (omega arith), length-take-le (end - at) (drop at es) (omega (arith, length-drop at es)))) in
      ap₂ take (sym size) closed_is ∙ take-append_seam (take at es ++ others) (first ++ rest)
      ∙ ap₂ (λ (x y : List Entry). x ++ y) (sym (take-take at end es (omega arith))) (ap (drop 1) (between_is es at end) ∙ drop-drop 1 at (take end es) ∙ ap (λ n. drop n (take end es)) (add-one at))

  times_closed : (p : ℕ) → times p (closed es at end) ≡ times p es
  times_closed p =
      let one = ap (times p) closed_is ∙ times_append p (take at es ++ others) (first ++ rest) in
      let two = times_append p (take at es) others in
      let three = times_append p first rest in
      let four = ap (times p) (sym (take-append-drop at es)) ∙ times_append p (take at es) (drop at es) in
      let five = ap (times p) (sym (take-append-drop (end - at) (drop at es))) ∙ times_append p part (drop (end - at) (drop at es)) in
      let six = ap (times p) (drop-drop (end - at) at es) in
      let seven = ap (times p) (sym (take-append-drop 1 part)) ∙ times_append p first others in
      let whole : at + (end - at) ≡ end = omega arith in
      let eight = ap (λ n. times p (drop n es)) whole in
      omega arith

  pub closed_apart : Apart es → Apart (closed es at end)
  closed_apart apart p = let same = times_closed p in let most = apart p in omega arith

  pub closed_sound : (bytes : List ℕ) (instrs : List Instr) → all_sound bytes instrs (take end es) ≡ true → all_sound bytes instrs (take (end - 1) (closed es at end)) ≡ true
  closed_sound bytes instrs s =
      ap (all_sound bytes instrs) left_used
      ∙ sound_join bytes instrs (take at (take end es)) (drop (suc at) (take end es)) (sound_take bytes instrs at (take end es) s) (sound_drop bytes instrs (suc at) (take end es) s)

-- the first entry of the name is taken out
module _ (t : Templates) (name : Text) (at : ℕ) (f : First name (entries_of t) at) (es : List Entry) (is : es ≡ closed t.entries at t.count) where
  below : at < t.count
  below = omega (arith, f.within, length-take t.count t.entries)

  room : t.count ≤ length t.entries
  room = omega arith

  pub gap_apart : Apart es
  gap_apart = subst Apart (sym is) (closed_apart t.entries at t.count below room t.apart)

  pub gap_sound : (n : ℕ) → n ≤ t.count - 1 → all_sound (vec_items t.bytes) (vec_items t.instrs) (take n es) ≡ true
  gap_sound n le =
      ap (all_sound (vec_items t.bytes) (vec_items t.instrs)) (ap (take n) is ∙ sym (take-take n (t.count - 1) (closed t.entries at t.count) le))
      ∙ sound_take (vec_items t.bytes) (vec_items t.instrs) n _ (closed_sound t.entries at t.count below room (vec_items t.bytes) (vec_items t.instrs) t.sound)

  gap_holds : held (vec_items t.bytes) (take (t.count - 1) es) ≡ without name (templates_of t)
  gap_holds =
      ap (λ (x : List Entry). held (vec_items t.bytes) (take (t.count - 1) x)) is ∙ ap (held (vec_items t.bytes)) (left_used t.entries at t.count below room)
      ∙ sym (without_first (vec_items t.bytes) name (entries_of t) at f)

-- WHAT IS LEFT

module _ (t : Templates) (name : List ℕ) (n : Name) (well : WellNamed name (Ok n)) (supply : Charge) (loaded : Value) where
  unknown : named (name_of n) (entries_of t) ≡ false → removed (model_of supply loaded t) name ≡ fails (fault UnknownName 0)
  unknown none_of =
      let lost = find_none (vec_items t.bytes) name (entries_of t) (ap (λ (x : Text). named x (entries_of t)) (sym well.1) ∙ none_of) in
      rw (well.0, lost, found_template) refl

  known : (at : ℕ) → First (name_of n) (entries_of t) at → removed (model_of supply loaded t) name ≡ gives (with_templates (model_of supply loaded t) (without name (templates_of t)))
  known at f =
      let found = ap (find (templates_of t)) (sym well.1) ∙ find_first (vec_items t.bytes) (name_of n) (entries_of t) at f in
      rw (well.0, found, found_template) refl

module _ (t : Templates) (name : List ℕ) (n : Name) (well : WellNamed name (Ok n)) where
  pub unknown_left : named (name_of n) (entries_of t) ≡ false → (f : code.Fault) → fault_of f ≡ fault UnknownName 0 → (supply : Charge) (loaded : Value) → Leaves supply loaded t t (removed (model_of supply loaded t) name) (Err f)
  unknown_left none_of f told supply loaded = refused_left supply loaded t _ _ (Err f) f (unknown t name n well supply loaded none_of) refl told

  pub removed_left : (at : ℕ) → First (name_of n) (entries_of t) at → (after : Templates) → vec_items after.bytes ≡ vec_items t.bytes → after.entries ≡ closed t.entries at t.count → after.count ≡ t.count - 1 → (supply : Charge) (loaded : Value) → Leaves supply loaded t after (removed (model_of supply loaded t) name) (Ok tt)
  removed_left at f after bytes entries count supply loaded =
      let is : templates_of after ≡ without name (templates_of t) =
      (λ i. held (bytes i) (take (count i) after.entries)) ∙ gap_holds t (name_of n) at f after.entries entries ∙ ap (λ (x : Text). without x (templates_of t)) well.1 in
      subst (λ (o : Or Fault Model). Leaves supply loaded t after o (Ok tt)) (sym (known t name n well supply loaded at f))
      (ap (with_templates (model_of supply loaded t)) is)
