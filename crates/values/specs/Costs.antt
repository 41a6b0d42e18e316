-- What a value costs, as the code counts it.
use Rattle.std.specs.Prelude.{ℕ, ◌+◌}
use Rattle.meaning.specs.Charge.{Charge}
use Rattle.values.specs.declared.cost.Cost.{Cost}

abbrev pub charge_of : Cost → Charge
charge_of c = record { cells = c.values + c.parts; bytes = c.bytes }

-- one part more, and the bytes of its key
abbrev pub with_part : Cost → Cost → ℕ → Cost
with_part c part key = record {
  values = c.values + part.values;
  parts = c.parts + part.parts + 1;
  bytes = c.bytes + part.bytes + key;
}
