-- Why packed bytes are refused, as code says it.
use Rattle.std.specs.Prelude.{ℕ}
use Rattle.meaning.specs.declared.fault.Cause.{Cause}
use Rattle.meaning.specs.declared.fault.Cause.TheVariants as because
use Rattle.reader.specs.declared.refusal.Refusal.{Refusal}
use Rattle.reader.specs.declared.refusal.Refusal.TheVariants.{BadSource, Malformed, Misplaced, TooDeep}

abbrev pub cause_of : Refusal → Cause
cause_of BadSource = because.BadSource
cause_of (Malformed at) = because.Malformed
cause_of (Misplaced at) = because.Misplaced
cause_of (TooDeep at) = because.TooDeep

-- the detail of the fault
abbrev pub offset_of : Refusal → ℕ
offset_of BadSource = 0
offset_of (Malformed at) = at
offset_of (Misplaced at) = at
offset_of (TooDeep at) = at
