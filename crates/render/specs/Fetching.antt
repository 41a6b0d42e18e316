-- What reading the next instruction answers.
use Rattle.std.specs.Prelude.{◌≡◌, ℕ, ◌<◌, Some, None, Option}
use Rattle.std.proofs.Math.Option.{some}
use Rattle.machine.specs.Machine.{Fetched, instr, at_end, outside}
use Rattle.decoder.specs.Decoding.{IsSound, decoded_instr}
use Rattle.decoder.specs.declared.decoded.Decoded.{Decoded}

abbrev pub Reads : Fetched → Option Decoded → Type 0
Reads (instr i) (Some d) = (decoded_instr d ≡ some i) × IsSound d
Reads (instr i) None = ⊥
Reads at_end (Some d) = ⊥
Reads at_end None = Unit {0}
Reads outside (Some d) = ⊥
Reads outside None = Unit {0}

-- there are at most 1,024 instructions
abbrev pub Few : (pc : ℕ) → Option Decoded → Type 0
Few pc (Some d) = pc < 1024
Few pc None = Unit {0}
