-- What the model answers to an adding and to a removal, by what was found on the way.
use Rattle.std.proofs.Common.{◌≡◌, ℕ, suc, ◌<◌, ◌≤◌, true, false, List, [], ◌∷◌, ◌++◌, length, take, drop, Ok, Err, Result, vec_items, sym, refl, ap, ◌∙◌, ap₂, subst, inr, arith, length-append}
use borrow.Author.Tests.{lt-true, le-false}
use Rattle.std.specs.Result.{IsErrAnd}
use Rattle.std.proofs.lemmas.List.{take_all, drop_all}
use Rattle.meaning.specs.Charge.{Charge}
use Rattle.meaning.specs.Fault.{Fault, fault}
use Rattle.meaning.specs.FaultRecords.{fault_of}
use Rattle.meaning.specs.Names.{well_named, name_of}
use Rattle.meaning.specs.Or.{Or, fails, gives}
use Rattle.meaning.specs.Reading as reading
use Rattle.meaning.specs.Tree.{Scope}
use Rattle.meaning.specs.Value.{Text, Value}
use Rattle.meaning.specs.declared.fault.Cause.TheVariants.{TooManyInstructions, BadName, TemplatesFull}
use Rattle.meaning.specs.declared.fault.Fault as code
use Rattle.meaning.specs.declared.name.Name.{Name}
use Rattle.packing.specs.Unpacking.{unpack}
use Rattle.program.specs.Program.{compile, count}
use Rattle.program.proofs.Laws.{count_is_length}
use Rattle.checker.specs.Templates.{source_of, tree_of}
use Rattle.checker.specs.declared.template.Template.{Template}
use Rattle.model.specs.Model.{Model, added, put, with_templates}
use Rattle.templates.specs.Entries.{held, named, template_from, scope_of}
use Rattle.templates.specs.Held.{Leaves, WellNamed, HasIndex, entries_of, model_of, templates_of}
use Rattle.templates.specs.Writing.{Counted}
use Rattle.templates.specs.declared.entry.Entry.{Entry}
use Rattle.templates.specs.declared.table.Templates.{Templates}
use Rattle.templates.proofs.Indexed.{unpacked, counted as length_is}
use Rattle.templates.proofs.Names.{held_length, put_goes}

module _ (m : Model) (name source tree : List ℕ) (scope : Scope) (e : unpack source tree ≡ gives scope) where
  abbrev more : reading.Templates
  more = put name (record { source = source; tree = scope }) m.templates

  too_long : 1024 < length (compile scope) → added m name source tree ≡ fails (fault TooManyInstructions (length (compile scope)))
  too_long h =
      let size : count scope ≡ length (compile scope) = sym (count_is_length scope 0) in
      let test = lt-true 1024 (length (compile scope)) h in
      rw (e, size, sym test) refl

  module _ (short : length (compile scope) ≤ 1024) where
    badly_named : well_named name ≡ false → added m name source tree ≡ fails (fault BadName 0)
    badly_named h =
        let size : count scope ≡ length (compile scope) = sym (count_is_length scope 0) in
        let test = le-false 1024 (length (compile scope)) short in
        rw (e, size, sym test, h) refl

    module _ (well : well_named name ≡ true) where
      no_room : 16 < length more → added m name source tree ≡ fails (fault TemplatesFull 0)
      no_room h =
          let size : count scope ≡ length (compile scope) = sym (count_is_length scope 0) in
          let test = le-false 1024 (length (compile scope)) short in
          let full = lt-true 16 (length more) h in
          rw (e, size, sym test, well, sym full) refl

      taken : length more ≤ 16 → added m name source tree ≡ gives (with_templates m more)
      taken h =
          let size : count scope ≡ length (compile scope) = sym (count_is_length scope 0) in
          let test = le-false 1024 (length (compile scope)) short in
          let fits = le-false 16 (length more) h in
          rw (e, size, sym test, well, sym fits) refl

-- WHAT IS LEFT

-- a template of another name than those that are held comes behind them
more_by_one : (bytes : List ℕ) (name : Text) (template : reading.Template) (es : List Entry) → named name es ≡ false → length (put name template (held bytes es)) ≡ suc (length es)
more_by_one bytes name template es none_of =
    let all : take (length es) es ≡ es = take_all (length es) es (omega arith) in
    let nothing : drop (suc (length es)) es ≡ [] = drop_all (suc (length es)) es (omega arith) in
    ap length (put_goes bytes name es (length es) template (inr (refl, none_of)) ∙ ap₂ (λ (xs ys : List Entry). held bytes xs ++ ((name, template) ∷ held bytes ys)) all nothing)
    ∙ length-append (held bytes es) ((name, template) ∷ [])
    ∙ omega (arith, held_length bytes es)

-- a fault changes nothing
pub refused_left : (supply : Charge) (loaded : Value) (t : Templates) (o : Or Fault Model) (w : Fault) (r : Result (Unit {0}) code.Fault) (f : code.Fault) → o ≡ fails w → IsErrAnd r (λ x. x ≡ f) → fault_of f ≡ w → Leaves supply loaded t t o r
refused_left supply loaded t o w (Ok u) f e is told = absurd is
refused_left supply loaded t o w (Err g) f e is told = subst (λ (x : Or Fault Model). Leaves supply loaded t t x (Err g)) (sym e) (ap fault_of is ∙ told, refl)

-- the template was checked
module _ (t : Templates) (name source tree : List ℕ) (checked : Template) (source_is : source_of checked ≡ source) (tree_is : tree_of checked ≡ tree) where
  abbrev scope : Scope
  scope = scope_of (unpack (source_of checked) (tree_of checked))

  was : unpack (source_of checked) (tree_of checked) ≡ gives scope
  was = unpacked (source_of checked) (tree_of checked) checked.ok

  unpacks_to : unpack source tree ≡ gives scope
  unpacks_to = ap₂ unpack (sym source_is) (sym tree_is) ∙ was

  pub too_long_left : (f : code.Fault) → ((s : Scope) → unpack (source_of checked) (tree_of checked) ≡ gives s → Counted (compile s) (Err f)) → (r : Result (Unit {0}) code.Fault) → IsErrAnd r (λ x. x ≡ f) → (supply : Charge) (loaded : Value) → Leaves supply loaded t t (added (model_of supply loaded t) name source tree) r
  too_long_left f counted r is supply loaded =
      let told = counted scope was in
      refused_left supply loaded t _ _ r f (too_long (model_of supply loaded t) name source tree scope unpacks_to told.0) is told.1

  module _ (counted : (s : Scope) → unpack (source_of checked) (tree_of checked) ≡ gives s → Counted (compile s) (Ok tt)) where
    pub badly_named_left : (f : code.Fault) → WellNamed name (Err f) → (r : Result (Unit {0}) code.Fault) → IsErrAnd r (λ x. x ≡ f) → (supply : Charge) (loaded : Value) → Leaves supply loaded t t (added (model_of supply loaded t) name source tree) r
    badly_named_left f told r is supply loaded =
        refused_left supply loaded t _ _ r f (badly_named (model_of supply loaded t) name source tree scope unpacks_to (counted scope was) told.0) is told.1

    module _ (n : Name) (well : WellNamed name (Ok n)) where
      pub no_room_left : (f : code.Fault) → HasIndex (name_of n) t (Err f) → (r : Result (Unit {0}) code.Fault) → IsErrAnd r (λ x. x ≡ f) → (supply : Charge) (loaded : Value) → Leaves supply loaded t t (added (model_of supply loaded t) name source tree) r
      no_room_left f told r is supply loaded =
          let none_of = ap (λ (x : Text). named x (entries_of t)) (sym well.1) ∙ told.1 in
          let one_more = more_by_one (vec_items t.bytes) name (record { source = source; tree = scope }) (entries_of t) none_of in
          refused_left supply loaded t _ _ r f (no_room (model_of supply loaded t) name source tree scope unpacks_to (counted scope was) well.0 (omega (arith, one_more, told.0))) is told.2

      pub added_left : (after : Templates) → templates_of after ≡ put (name_of n) (template_from (source_of checked) (tree_of checked)) (templates_of t) → (supply : Charge) (loaded : Value) → Leaves supply loaded t after (added (model_of supply loaded t) name source tree) (Ok tt)
      added_left after holds supply loaded =
          let is : templates_of after ≡ put name (record { source = source; tree = scope }) (templates_of t) =
          holds ∙ (λ i. put (well.1 i) (record { source = source_is i; tree = scope }) (templates_of t)) in
          let few : length (put name (record { source = source; tree = scope }) (templates_of t)) ≤ 16 = omega (arith, ap length is, length_is after) in
          subst (λ (o : Or Fault Model). Leaves supply loaded t after o (Ok tt)) (sym (taken (model_of supply loaded t) name source tree scope unpacks_to (counted scope was) well.0 few))
          (ap (with_templates (model_of supply loaded t)) is)
