-- What a report says of a packed value that is to be loaded, by its bytes and the supply alone.
use Rattle.std.specs.Prelude.{ℕ, cond, List, ◌++◌, length, codes, decimal}
use Rattle.meaning.specs.Charge.{Charge, cost, within}
use Rattle.meaning.specs.Fault.{Fault}
use Rattle.meaning.specs.Or.{Or, fails, gives}
use Rattle.meaning.specs.Value.{Value}
use Rattle.meaning.specs.declared.fault.Cause.TheVariants.{StoreFull}
use Rattle.packing.specs.Unpacking.{unpack_value}
use Rattle.job.specs.declared.report.Came.{Came}
use Rattle.job.specs.Causes.{refused_by}
use Rattle.job.specs.Values.{outline_value}

-- a cost, and what may be used
abbrev pub cost_words : (supply : Charge) → Charge → List ℕ
cost_words supply c =
    codes ", cost " ++ (decimal c.cells ++ (codes " cells of " ++ (decimal supply.cells ++ (codes " and " ++ (decimal c.bytes ++ (codes " bytes of " ++ (decimal supply.bytes ++ codes "\n")))))))

abbrev pub size_words : (size : ℕ) → List ℕ
size_words size = codes "taken, value of " ++ (decimal size ++ codes " bytes")

abbrev pub offset_words : (offset : ℕ) → List ℕ
offset_words offset = codes ", at byte " ++ (decimal offset ++ codes " of the value\n")

-- the value with its outline, a level deep; or why it is refused
abbrev pub unpacked_words : (supply : Charge) (size : ℕ) → Or Fault Value → List ℕ
unpacked_words supply size (gives v) =
    cond (within supply (cost v))
    (size_words size ++ cost_words supply (cost v) ++ outline_value 1 v)
    (refused_by StoreFull ++ cost_words supply (cost v))
unpacked_words supply size (fails f) = refused_by f.cause ++ offset_words f.detail

abbrev pub load_words : (supply : Charge) (packed : List ℕ) → List ℕ
load_words supply packed = unpacked_words supply (length packed) (unpack_value packed)

abbrev pub came_of_value : (supply : Charge) → Or Fault Value → Came
came_of_value supply (gives v) = cond (within supply (cost v)) Came.Taken Came.Refused
came_of_value supply (fails f) = Came.Refused

abbrev pub came_of_load : (supply : Charge) (packed : List ℕ) → Came
came_of_load supply packed = came_of_value supply (unpack_value packed)
