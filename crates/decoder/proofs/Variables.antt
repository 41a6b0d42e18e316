-- A variable as its members in a row.
use Rattle.std.proofs.Common.{◌≡◌, ℕ, ◌≤◌, List, length, drop, sym, refl, arith}
use mathlib.Core.Option.{none, some}
use Rattle.meaning.specs.Or.{gives, fails}
use Rattle.meaning.specs.Step.{return, continue}
use Rattle.meaning.specs.declared.tree.Member.{Member}
use Rattle.meaning.specs.Tree.{Var, members}
use Rattle.meaning.specs.declared.fault.Cause.TheVariants.{Malformed}
use Rattle.packing.specs.Reader.{Outcome, read, refused}
use Rattle.packing.specs.Unpacking.{variable}
use Rattle.packing.proofs.Readers.{finish, never_read}
use Rattle.program.specs.Program as program
use Rattle.reader.specs.Fields.{variable_members}
use Rattle.compiler.specs.Records.{from_read, operand}
use Rattle.decoder.specs.Decoding.{variable_of}

module _ (tree : List ℕ) (at : ℕ) where
  pub variable_means : (ms : List Member) (t : List ℕ) → read ms t ≡ variable_members 0 (drop at tree) → (variable_of ms ≡ operand tree variable at program.ExprStartVar) × (1 ≤ length ms)
  unfolding variable_members
  variable_means ms t e = by (variable 0 (drop at tree)) e
    where
      by : (o : Outcome Var) → read ms t ≡ continue o (λ v. return (members v)) → (variable_of ms ≡ from_read o (λ v s. some (program.ExprStartVar v))) × (1 ≤ length ms)
      by (gives (v, s)) e = finish (λ ms t. (variable_of ms ≡ some (program.ExprStartVar v)) × (1 ≤ length ms)) (sym e) (refl, omega arith)
      by (fails (cause, left)) e = absurd (never_read (sym e))

  pub variable_missing : refused Malformed 0 ≡ variable_members 0 (drop at tree) → none ≡ operand tree variable at program.ExprStartVar
  unfolding variable_members
  variable_missing e = by (variable 0 (drop at tree)) e
    where
      by : (o : Outcome Var) → refused Malformed 0 ≡ continue o (λ v. return (members v)) → none ≡ from_read o (λ v s. some (program.ExprStartVar v))
      by (gives (v, s)) e = absurd (never_read e)
      by (fails (cause, left)) e = refl
