-- The program of a whole template.
use Rattle.std.proofs.Common.{◌≡◌, ℕ, ◌≤◌, true, List, [], ◌++◌, length, drop, ap, ◌∙◌, subst, arith}
use Rattle.meaning.specs.Or.{gives}
use Rattle.meaning.specs.Tree.{Scope}
use Rattle.packing.specs.Unpacking.{unpack}
use Rattle.program.specs.Program as program
use Rattle.checker.specs.Whole.{unpacks}
use Rattle.checker.specs.There.{ScopeThere}
use Rattle.checker.proofs.WholeThere.{template_scope, whole_there}
use Rattle.compiler.specs.declared.instr.Instr.{Instr}
use Rattle.compiler.specs.declared.writing.Compiler.{Compiler}
use Rattle.compiler.specs.Answers.{Holds}
use Rattle.compiler.specs.Writing.{written}
use Rattle.compiler.specs.Compiled.{Made, Over, Room, ScopeMade}
use Rattle.compiler.proofs.Means.{made_counts, mean_length}
use Rattle.compiler.proofs.Writes.{written_front}

module _ (source : List ℕ) {tree : List ℕ} where
  scope_over : (scope : Scope) → unpack source tree ≡ gives scope → Over (λ s. ScopeThere s tree 0)
  scope_over scope e =
      let whole = whole_there source tree scope e in
      record { source = source; short = whole.source_short; there = record { scope = scope; fits = whole.fits; stands = whole.stands } }

  -- what the compiler requires of a template
  pub whole_over : unpacks source tree ≡ true → Over (λ s. ScopeThere s tree 0)
  whole_over ok = let found = template_scope source tree ok in scope_over found.0 found.1

  pub whole_room : {len : ℕ} → unpacks source tree ≡ true → len ≡ 0 → Room tree 0 len
  whole_room ok none =
      let found = template_scope source tree ok in
      record { short = (whole_there source tree found.0 found.1).tree_short; fewer = omega arith }

  -- what it then has done
  module _ {known : List ℕ} (bytes : tree ≡ known) (scope : Scope) (e : unpack source known ≡ gives scope) {end : ℕ} {before after : Compiler} (none : before.len ≡ 0) (made : ScopeMade tree 0 end before after) where
    whole_made : Made known (program.compile scope) before after
    unfolding scope_over
    whole_made = rw (← none) (subst (λ t. Made t (program.compile_scope scope before.len) before after) bytes (made (scope_over scope (rw (← bytes) at e))).made)

    pub whole_counts : after.len ≡ length (program.compile scope)
    whole_counts = let counts = made_counts whole_made in omega arith

    pub whole_holds : {start final : List Instr} → before.instrs.now ≡ start → final ≡ after.instrs.now → after.len ≤ length start → Holds known (program.compile scope) start final
    whole_holds {start} same is room =
        let m = whole_made in
        let records = m.records in
        let size : length records ≡ length (program.compile scope) = mean_length known records (program.compile scope) m.mean in
        let counts = m.wrote.counts in
        let fits : length records ≤ length start = omega arith in
        record {
          records = records;
          mean = m.mean;
          is =
              is
              ∙ m.wrote.writes
              ∙ ap (λ out. written out before.len records) same
              ∙ ap (λ n. written start n records) none
              ∙ written_front records [] start fits
              ∙ ap (λ n. records ++ drop n start) size;
        }
