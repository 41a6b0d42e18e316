-- What is read is read in order, and a fault ends it.
use Rattle.std.specs.Prelude.{◌≡◌, ◌++◌}
use Rattle.meaning.specs.Tree.{Stmt, Scope, done, ◌then◌}
use Rattle.meaning.specs.Fault.{Fault}
use Rattle.meaning.specs.Hosts.{Sink}
use Rattle.meaning.specs.Reading.{End, finished, faulted, Reading, ◌followed_by◌}
use Rattle.meaning.specs.Offering.{offer_all}
use Rattle.meaning.specs.SinkLaws.{Tower, sink_of}
use Rattle.laws.specs.Places.{Place, reads_one, reads}

-- the statements of one scope, and behind them those of another
infixr 30 ◌and_then◌
abbrev pub ◌and_then◌ : Scope → Scope → Scope
done and_then second = second
(stmt then rest) and_then second = stmt then (rest and_then second)

-- two halves of a scope are read one after the other
abbrev pub ScopesReadInOrder : Type 0
ScopesReadInOrder =
    (at : Place) (first second : Scope) →
    reads at (first and_then second) ≡ reads at first followed_by reads at second

-- What is read before a statement that faults is offered, and what that statement offers before its fault; what stands behind it is not read.
abbrev pub FaultsEndReading : Type 0
FaultsEndReading =
    (at : Place) (first : Scope) (stmt : Stmt) (rest : Scope) (fault : Fault) →
    (reads at first).end ≡ finished →
    (reads_one at stmt).end ≡ faulted fault →
    reads at (first and_then (stmt then rest))
    ≡ record { events = (reads at first).events ++ (reads_one at stmt).events; end = faulted fault }

-- the second of two readings is offered where the first finished and the sink took all of it
abbrev pub next_offered : (sink : Sink) → Reading → End × sink.State → End × sink.State
next_offered sink second (finished, there) = offer_all sink second.events second.end there
next_offered sink second (faulted fault, there) = (faulted fault, there)

abbrev pub SinksAreOfferedInOrder : Type 0
SinksAreOfferedInOrder =
    (t : Tower) (first second : Reading) (there : (sink_of t).State) →
    offer_all (sink_of t) (first followed_by second).events (first followed_by second).end there
    ≡ next_offered (sink_of t) second (offer_all (sink_of t) first.events first.end there)
