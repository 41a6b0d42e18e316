-- That records mean a program, as a test and as a fact.
use Rattle.std.proofs.Common.{◌≡◌, ℕ, zero, suc, true, List, [], ◌∷◌, refl, ap, ◌∙◌, arith}
use mathlib.Core.Option.{Option, none, some}
use Rattle.std.specs.Prelude.{Some, None}
use Rattle.std.specs.List.{slice_get}
use Rattle.std.specs.declared.option.Option as code_option
use Rattle.std.proofs.lemmas.Bool.{and_parts, and_from, false≢true}
use Rattle.program.specs.Program as program
use Rattle.compiler.specs.declared.instr.Instr.{Instr}
use Rattle.compiler.specs.Records.{instr_of, Mean}
use Rattle.templates.specs.Codes.{instr_code}
use Rattle.templates.specs.Entries.{is_meant, means}
use Rattle.templates.specs.Held.{Fetches}
use Rattle.templates.proofs.Decodes.{same_itself, instr_equal}

is_meant_from : (o : Option program.Instr) (x : program.Instr) → o ≡ some x → is_meant o x ≡ true
unfolding is_meant
is_meant_from o x e = ap (λ (p : Option program.Instr). is_meant p x) e ∙ same_itself (instr_code x)

meant_is : (o : Option program.Instr) (x : program.Instr) → is_meant o x ≡ true → o ≡ some x
unfolding is_meant
meant_is none x e = absurd (false≢true e)
meant_is (some y) x e = ap some (instr_equal y x e)

module _ (tree : List ℕ) where
  pub means_from : (is : List Instr) (xs : List program.Instr) → Mean tree is xs → means tree is xs ≡ true
  unfolding means
  means_from [] [] m = refl
  means_from [] (x ∷ xs) m = absurd m
  means_from (i ∷ is) [] m = absurd m
  means_from (i ∷ is) (x ∷ xs) m = and_from (is_meant (instr_of tree i) x) (means tree is xs) (is_meant_from (instr_of tree i) x m.0) (means_from is xs m.1)

  fetches_next : (x : program.Instr) (xs : List program.Instr) (pc : ℕ) (r : code_option.Option Instr) → Fetches tree xs pc r → Fetches tree (x ∷ xs) (suc pc) r
  fetches_next x xs pc None h = omega arith
  fetches_next x xs pc (Some i) h = (omega (arith, h.0), h.1)

  -- the record of a number means the instruction of that number, and there are no more of them
  pub means_fetches : (is : List Instr) (xs : List program.Instr) → means tree is xs ≡ true → (pc : ℕ) → Fetches tree xs pc (slice_get is pc)
  unfolding means
  means_fetches [] [] m pc = omega arith
  means_fetches [] (x ∷ xs) m pc = absurd (false≢true m)
  means_fetches (i ∷ is) [] m pc = absurd (false≢true m)
  means_fetches (i ∷ is) (x ∷ xs) m zero = (omega arith, meant_is (instr_of tree i) x (and_parts (is_meant (instr_of tree i) x) (means tree is xs) m).0)
  means_fetches (i ∷ is) (x ∷ xs) m (suc pc) = fetches_next x xs pc (slice_get is pc) (means_fetches is xs (and_parts (is_meant (instr_of tree i) x) (means tree is xs) m).1 pc)
