-- Optional numbers of code.
use Rattle.std.specs.Prelude.{ℕ, Some, None}
use Rattle.std.proofs.Math.Option.{Option, none, some}
use Rattle.std.specs.declared.option.Option as code

abbrev pub same_option : code.Option ℕ → Option ℕ
same_option (Some n) = some n
same_option None = none
