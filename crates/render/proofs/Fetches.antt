-- What stands in a program at a number, and what is read there.
use Rattle.std.proofs.Common.{◌≡◌, ℕ, zero, suc, ◌<◌, ◌≤◌, List, [], ◌∷◌, length, Some, None, arith}
use mathlib.Core.Option.{none}
use Rattle.program.specs.Program.{Instr}
use Rattle.machine.specs.Machine.{fetch}
use Rattle.decoder.specs.Decoding.{IsSound, decoded_instr}
use Rattle.decoder.specs.declared.decoded.Decoded.{Decoded}
use Rattle.templates.specs.Held.{instr_at}
use Rattle.render.specs.Fetching.{Reads}

pub reads_past : (code : List Instr) (pc : ℕ) → length code ≤ pc → Reads (fetch code pc) None
reads_past [] zero past = tt
reads_past [] (suc pc) past = tt
reads_past (i ∷ is) zero past = absurd (omega (arith, past))
reads_past (i ∷ is) (suc pc) past = reads_past is pc (omega (arith, past))

pub reads_within : (code : List Instr) (pc : ℕ) (d : Decoded) → pc < length code → decoded_instr d ≡ instr_at code pc → IsSound d
    → Reads (fetch code pc) (Some d)
reads_within [] pc d within is sound = absurd (omega (arith, within))
reads_within (i ∷ is) zero d within same sound = (same, sound)
reads_within (i ∷ is) (suc pc) d within same sound = reads_within is pc d (omega (arith, within)) same sound

pub stands_within : (code : List Instr) (pc : ℕ) → pc < length code → none ≡ instr_at code pc → ⊥
stands_within [] pc within same = absurd (omega (arith, within))
stands_within (i ∷ is) zero within same = let z : ◌≡◌ {A = ℕ} 0 1 = cc in absurd (omega arith)
stands_within (i ∷ is) (suc pc) within same = stands_within is pc (omega (arith, within)) same
