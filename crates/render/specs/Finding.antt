-- The template that an include names.
use Rattle.std.specs.Prelude.{◌≡◌, ℕ, ◌<◌, length, Ok, Err, Result}
use Rattle.std.proofs.Math.Option.{none, some}
use Rattle.meaning.specs.Fault.{fault_at}
use Rattle.meaning.specs.FaultRecords.{fault_of}
use Rattle.meaning.specs.Reading.{Templates, find}
use Rattle.meaning.specs.Tree.{String}
use Rattle.meaning.specs.declared.fault.Cause.TheVariants.{UnknownTemplate}
use Rattle.meaning.specs.declared.fault.Fault as code
use Rattle.templates.specs.Held.{name_at, template_at}

-- it is the one at the index, or there is none
abbrev pub Finds : Templates → String → Result ℕ code.Fault → Type 0
Finds templates wanted (Ok i) =
    (i < length templates) × (name_at templates i ≡ wanted.text) × (find templates wanted.text ≡ some (template_at templates i))
Finds templates wanted (Err f) = (find templates wanted.text ≡ none) × (fault_of f ≡ fault_at UnknownTemplate wanted.span 0)
