-- Where more is given, a reading is the same, unless it is cut short for want of it.
use Rattle.std.specs.Prelude.{◌≡◌, List, ◌++◌}
use Rattle.meaning.specs.declared.fault.Cause.{Cause}
use Rattle.meaning.specs.Fault.{Fault}
use Rattle.meaning.specs.Reading.{Event, faulted, Reading}

-- the second reading is the first; or the first ends in a fault of that cause, and the second begins with all that it offers
pub data GoesOn (cause : Cause) (first second : Reading) : Type 0 where
  unchanged : first ≡ second → GoesOn cause first second
  cut_short :
      (fault : Fault) (more : List Event) → first.end ≡ faulted fault → fault.cause ≡ cause → second.events ≡ first.events ++ more →
      GoesOn cause first second
