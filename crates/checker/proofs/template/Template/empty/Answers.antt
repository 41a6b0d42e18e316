-- Statements that end at once unpack, over any source.
use Rattle.std.proofs.Common.{refl}
use Rattle.packing.specs.Rfc3629.{completes, well_formed}
use Rattle.packing.specs.Reader.{byte, coded, command}
use Rattle.packing.specs.Unpacking.{answer, scope_within, statements, unpack}
use Rattle.checker.proofs.template.Template.empty.Goals as goal

pub invariant_of-result : goal.invariant_of-result
unfolding completes well_formed byte coded command answer scope_within statements unpack
invariant_of-result c = record { ok = refl }
