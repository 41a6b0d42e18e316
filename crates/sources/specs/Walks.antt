-- The walk of one value as a source.
use Rattle.std.specs.Prelude.{Ok, Err, Result}
use Rattle.meaning.specs.Fault.{Fault}
use Rattle.meaning.specs.FaultRecords.{fault_of}
use Rattle.meaning.specs.Or.{Or, fails, gives}
use Rattle.meaning.specs.Value.{Value}
use Rattle.meaning.specs.declared.fault.Fault as code
use Rattle.sources.specs.Packed.{unpacked}
use Rattle.sources.specs.declared.value_walk.ValueWalk.{ValueWalk}

-- the value that is walked
abbrev pub value_of_walk : ValueWalk → Value
value_of_walk w = unpacked w.bytes.now

-- the value of the walk that was made, or the fault
abbrev pub walked : Result ValueWalk code.Fault → Or Fault Value
walked (Ok w) = gives (value_of_walk w)
walked (Err f) = fails (fault_of f)
