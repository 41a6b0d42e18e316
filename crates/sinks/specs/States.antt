-- What the memory of a page and the numbers of a counter stand for.
use Rattle.std.specs.Prelude.{ℕ, List, length, take}
use Rattle.meaning.specs.Sinks.{Counts}
use Rattle.sinks.specs.Sinks.{Written, Limited}

-- the bytes so far are the first of the memory
abbrev pub written : (memory : List ℕ) (used : ℕ) → Written
written memory used = record { size = length memory; bytes = take used memory }

abbrev pub counts : (bytes lines : ℕ) → Counts
counts bytes lines = record { bytes = bytes; lines = lines }

abbrev pub up_to : {M : Type 0} → (limit count : ℕ) → M → Limited M
up_to limit count beneath = record { limit = limit; count = count; beneath = beneath }
