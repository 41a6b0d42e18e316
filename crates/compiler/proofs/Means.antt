-- Records and what they mean, one part after another.
use Rattle.std.proofs.Common.{◌≡◌, ℕ, suc, ◌+◌, List, [], ◌∷◌, ◌++◌, length, drop, refl, ap, ◌∙◌, subst}
use mathlib.Core.Option.{some}
use Rattle.packing.specs.Reader.{Outcome, read}
use Rattle.program.specs.Program as program
use Rattle.checker.specs.There.{Stands}
use Rattle.checker.proofs.There.{second_part}
use Rattle.compiler.specs.declared.instr.Instr.{Instr}
use Rattle.compiler.specs.Records.{instr_of, operand, Mean}
use Rattle.compiler.specs.declared.writing.Compiler.{Compiler}
use Rattle.compiler.specs.Writing.{Pushed, Patched, aimed, patched}
use Rattle.compiler.specs.Compiled.{Made}
use Rattle.compiler.proofs.Writes.{wrote_none, wrote_one, wrote_on, wrote_changed}

pub mean_append : (tree : List ℕ) (a b : List Instr) (x y : List program.Instr) → Mean tree a x → Mean tree b y → Mean tree (a ++ b) (x ++ y)
mean_append tree [] b [] y m n = n
mean_append tree [] b (i ∷ x) y m n = absurd m
mean_append tree (i ∷ a) b [] y m n = absurd m
mean_append tree (i ∷ a) b (j ∷ x) y m n = (m.0, mean_append tree a b x y m.1 n)

pub mean_length : (tree : List ℕ) (a : List Instr) (x : List program.Instr) → Mean tree a x → length a ≡ length x
mean_length tree [] [] m = refl
mean_length tree [] (i ∷ x) m = absurd m
mean_length tree (i ∷ a) [] m = absurd m
mean_length tree (i ∷ a) (j ∷ x) m = ap suc (mean_length tree a x m.1)

-- how many instructions there are then
pub made_counts : {tree : List ℕ} {code : List program.Instr} {before after : Compiler} → Made tree code before after → after.len ≡ before.len + length code
made_counts {tree} {code} {before} m = m.wrote.counts ∙ ap (λ n. before.len + n) (mean_length tree m.records code m.mean)

pub made_none : {tree : List ℕ} {c : Compiler} → Made tree [] c c
made_none = record { records = []; mean = tt; wrote = wrote_none }

pub made_one : {tree : List ℕ} {made : Instr} {before after : Compiler} (i : Instr) (x : program.Instr) → instr_of tree i ≡ some x → made ≡ i → Pushed made before after → Made tree (x ∷ []) before after
made_one {tree} {made} {before} {after} i x means is p = record { records = i ∷ []; mean = (means, tt); wrote = wrote_one i (subst (λ (k : Instr). Pushed k before after) is p) }

pub made_on : {tree : List ℕ} {a b : List program.Instr} {before between after : Compiler} → Made tree a before between → Made tree b between after → Made tree (a ++ b) before after
made_on {tree} {a} {b} m n = record {
  records = m.records ++ n.records;
  mean = mean_append tree m.records n.records a b m.mean n.mean;
  wrote = wrote_on m.wrote n.wrote;
}

-- a jump that is written and then given its target
pub made_jump : {tree : List ℕ} {code : List program.Instr} {jump target : ℕ} {made : Instr} {before between late after : Compiler} (i : Instr) (x : program.Instr) → instr_of tree (aimed target i) ≡ some x → made ≡ i → Pushed made before between → Made tree code between late → jump ≡ before.len → Patched jump target late after → Made tree (x ∷ code) before after
made_jump {tree} {code} {jump} {target} {made} {before} {between} {late} {after} i x means is p m number q =
    let first = wrote_one i (subst (λ (k : Instr). Pushed k before between) is p) in
    record {
      records = aimed target i ∷ m.records;
      mean = (means, m.mean);
      wrote = wrote_changed (aimed target) i (wrote_on first m.wrote) q.counts (q.writes ∙ ap (λ n. patched late.instrs.now n target) number);
    }

-- OPERANDS

-- behind the byte of a command
pub behind_byte : (tree : List ℕ) (start b : ℕ) (part : List ℕ) → Stands tree start (b ∷ part) → Stands tree (start + 1) part
behind_byte tree start b part s = second_part tree start (b ∷ []) part s

pub operand_means : {A : Type 0} (tree : List ℕ) (reader : (at : ℕ) → List ℕ → Outcome A) (at : ℕ) (make : A → program.Instr) (x : A) (part : List ℕ) (rest : List ℕ → List ℕ) → Stands tree at part → ((u : List ℕ) → reader 0 (part ++ u) ≡ read x (rest u)) → operand tree reader at make ≡ some (make x)
operand_means tree reader at make x part rest s reads = rw (s.reads, reads (drop (at + length part) tree))
