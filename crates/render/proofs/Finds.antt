-- A template that is found by its name is the program that the machine finds.
use Rattle.std.proofs.Common.{◌≡◌, ℕ, suc, ◌+◌, ◌<◌, true, ltb, List, ◌∷◌, length, refl, ap, ◌∙◌, arith, lt-ltb}
use mathlib.Core.Option.{none, some}
use Rattle.meaning.specs.Charge.{Charge}
use Rattle.meaning.specs.Hosts.{Taken}
use Rattle.meaning.specs.Reading.{Event, Templates, Template, find}
use Rattle.meaning.specs.Tree.{String}
use Rattle.meaning.specs.Value.{Text, Value}
use Rattle.meaning.specs.declared.tree.Span.{Span}
use Rattle.program.specs.Program.{IncludeWith}
use Rattle.machine.specs.Machine.{Entry, Frame, Held, Open, World, a_boundary, a_scope, enter, execute, find_compiled, most_scopes}
use Rattle.machine.specs.Promise.{compile_template, compile_templates}
use Rattle.machine.proofs.Includes.{compiled_found, compiled_if}

pub found : (templates : Templates) (name : Text) (template : Template) → find templates name ≡ some template
    → find_compiled (compile_templates templates) name ≡ some (compile_template template)
found templates name template e = compiled_found templates name ∙ ap compiled_if e

pub missing : (templates : Templates) (name : Text) → find templates name ≡ none → find_compiled (compile_templates templates) name ≡ none
missing templates name e = compiled_found templates name ∙ ap compiled_if e

module _ {M : Type 0} (observe : M → Event → Taken M) (world : World) (frame : Frame) (next : ℕ) (below : List Open) where
  -- an include with that finds its template comes to opening it over a boundary and the value
  pub opens_with : (wanted : String) (v : Value) (span : Span) (scopes : List Entry) (values rest : List Held) (tally : Charge) (m : M) (template : Template)
      → find_compiled world.programs wanted.text ≡ some (compile_template template) → values ≡ (v, span) ∷ rest → length scopes + 1 < most_scopes
      → execute observe world frame next below (IncludeWith wanted) scopes values tally m
      ≡ enter observe world (record { name = wanted.text; compiled = compile_template template; scoped = true }) (record { frame = frame; pc = next } ∷ below)
      (record { kind = a_scope v; floor = tally } ∷ record { kind = a_boundary; floor = tally } ∷ scopes) rest tally m
  opens_with wanted v span scopes values rest tally m template found are room =
      let one : ltb (length scopes) most_scopes ≡ true = lt-ltb _ _ (omega (arith, room)) in
      let two : ltb (suc (length scopes)) most_scopes ≡ true = lt-ltb _ _ (omega (arith, room)) in
      rw (are, found, one, two) refl
