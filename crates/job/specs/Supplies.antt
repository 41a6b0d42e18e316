-- The memory that a job supplies for values.
use Rattle.std.specs.Prelude.{ℕ, min, List, ◌++◌, codes, decimal}
use Rattle.meaning.specs.Charge.{Charge}

-- of the cells and of the bytes that are supplied, so many are used at most
abbrev pub usable : (cells bytes : ℕ) → Charge
usable cells bytes = record { cells = min 65535 cells; bytes = min 65535 bytes }

abbrev pub supply_words : (cells bytes : ℕ) → Charge → List ℕ
supply_words cells bytes used =
    codes "supply: " ++ (decimal cells ++ (codes " cells and " ++ (decimal bytes ++ (codes " bytes, of which " ++ (decimal used.cells ++ (codes " cells and " ++ (decimal used.bytes ++ codes " bytes are used at most\n")))))))
