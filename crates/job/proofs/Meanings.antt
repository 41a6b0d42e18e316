-- What records mean, in words.
use Rattle.std.proofs.Common.{◌≡◌, ℕ, zero, suc, ◌+◌, ◌<◌, ◌≤◌, true, List, [], ◌∷◌, ◌++◌, length, get_or, take, drop, Ok, codes, decimal, sym, refl, ap, ◌∙◌, ap₂, arith, add-one, drop_of_length-le, drop-cons}
use Rattle.std.proofs.Math.Seq.{take-append_seam}
use Rattle.std.proofs.lemmas.Bool.{le-leb}
use Rattle.meaning.specs.Fault.{Fault}
use Rattle.meaning.specs.Or.{Or, gives, fails}
use Rattle.meaning.specs.Tree.{Scope}
use Rattle.meaning.specs.declared.tree.Member.{Member}
use Rattle.checker.specs.Whole.{verdict}
use Rattle.program.specs.Program as program
use Rattle.decoder.specs.Decoding.{variable_of}
use Rattle.compiler.specs.declared.instr.Instr.{Instr}
use Rattle.compiler.specs.Records.{Mean}
use Rattle.compiler.specs.Answers.{Answers}
use Rattle.compiler.proofs.Means.{mean_length}
use Rattle.job.specs.Listing.{path, instr_line, instr_lines, listed, listing}
use Rattle.job.specs.Listed.{Meant, meant_words, record_line, record_lines, record_program}
use Rattle.job.specs.Lines.{Adds}
use Rattle.job.specs.Outline.{outline_scope}
use Rattle.job.specs.Report.{taken_words, verdict_words}
use Rattle.job.proofs.Writing.{then_adds}

pub variable_words : (source : List ℕ) (ms : List Member) → 1 ≤ length ms → codes "ExprStartVar " ++ path source true ms ≡ meant_words source (variable_of ms)
variable_words source [] h = absurd (omega arith)
variable_words source (m ∷ ms) h = refl

module _ (tree : List ℕ) where
  pub meant_at : (is : List Instr) (code : List program.Instr) → Mean tree is code → (n : ℕ) (d : Instr) → n < length is → Meant tree (get_or is n d)
  meant_at [] code m n d h = absurd (omega arith)
  meant_at (i ∷ is) [] m n d h = absurd m
  meant_at (i ∷ is) (x ∷ code) m zero d h = record { instr = x; is = m.0 }
  meant_at (i ∷ is) (x ∷ code) m (suc n) d h = meant_at is code m.1 n d (omega arith)

  pub lines_meant : (source : List ℕ) (number : ℕ) (is : List Instr) (code : List program.Instr) → Mean tree is code → record_lines source tree number is ≡ instr_lines source number code
  lines_meant source number [] [] m = refl
  lines_meant source number [] (x ∷ code) m = absurd m
  lines_meant source number (j ∷ is) [] m = absurd m
  lines_meant source number (j ∷ is) (x ∷ code) m =
      ap₂ (λ (w rest : List ℕ). instr_line number w ++ rest) (ap (meant_words source) m.0) (lines_meant source (number + 1) is code m.1)

module _ (source tree : List ℕ) (number : ℕ) (is : List Instr) where
  -- the line of a record before those of the records behind it
  pub record_lines_on : (d : Instr) → number < length is → record_lines source tree number (drop number is) ≡ record_line source tree number (get_or is number d) ++ record_lines source tree (number + 1) (drop (number + 1) is)
  record_lines_on d h = ap (record_lines source tree number) (drop-cons is number d h ∙ ap (λ n. get_or is number d ∷ drop n is) (sym (add-one number)))

  pub record_lines_end : length is ≤ number → record_lines source tree number (drop number is) ≡ []
  record_lines_end past = ap (record_lines source tree number) (drop_of_length-le is past)

-- the lines of records that hold a program at the front
pub program_listed : (source tree : List ℕ) (code : List program.Instr) (before after : List Instr) (count : ℕ) → Answers tree code before after (Ok count) → record_program source tree (take count after) ≡ listed source code
program_listed source tree code before after count h =
    let holds = h.2 in
    let size = mean_length tree holds.records code holds.mean in
    let front : take count after ≡ holds.records =
    ap₂ take (h.0 ∙ sym size) holds.is ∙ take-append_seam holds.records (drop (length code) before) in
    rw (front, le-leb (length code) 1024 (omega (arith, h.0, h.1)))
    (ap₂ (λ (n : ℕ) (lines : List ℕ). codes "  program of " ++ (decimal n ++ codes " instructions\n") ++ lines) size (lines_meant tree source 0 holds.records code holds.mean))

-- what is said of bytes that are a template, part after part
pub verdict_adds : {before taken outlined after : List ℕ} (source tree : List ℕ) (o : Or Fault Scope) → gives tt ≡ verdict o → Adds (taken_words source tree) before taken → ((scope : Scope) → o ≡ gives scope → Adds (outline_scope source 1 scope) taken outlined) → ((scope : Scope) → o ≡ gives scope → Adds (listing source scope) outlined after) → Adds (verdict_words source tree o) before after
verdict_adds source tree (gives scope) good a b d = then_adds (then_adds a (b scope refl)) (d scope refl)
verdict_adds source tree (fails f) good a b d = absurd cc
