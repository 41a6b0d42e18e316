-- The text of a reading.
use Rattle.std.specs.Prelude.{◌≡◌, ℕ, ◌+◌, ◌≤◌, true, List, [], ◌∷◌, ◌++◌, length}
use Rattle.std.specs.List.{All}
use Rattle.meaning.specs.Or.{gives}
use Rattle.meaning.specs.Value.{Value, Text}
use Rattle.meaning.specs.Tree.{Scope, done, ◌then◌}
use Rattle.meaning.specs.Hosts.{Callable, nothing, formatter, function, Hosts, ValueSource, Sink, Taken, Lawful}
use Rattle.meaning.specs.Walk.{Ask}
use Rattle.meaning.specs.Scopes.{parts_of, asking}
use Rattle.meaning.specs.Sinks.{page}
use Rattle.meaning.specs.Formatters.{plain, chart_set}
use Rattle.meaning.specs.Sources.{walk_of, pot_log}
use Rattle.meaning.specs.SinkLaws.{Same}
use Rattle.meaning.specs.Reading.{Event, offers, End, finished, Reading, text}
use Rattle.meaning.specs.Offering.{offer_all}
use Rattle.packing.specs.Rfc3629.{well_formed}
use Rattle.packing.specs.Texts.{WellFormedValue, WritesText}
use Rattle.model.specs.Model.{Model, render, render_from, rendering, call}
use Rattle.model.specs.Laws.{Sound}
use Rattle.laws.specs.Places.{Place, reads_one, reads}

-- a page that is large enough holds a reading's text behind what was there, and the reading ends as it does
abbrev pub TextsAreWritten : Type 0
TextsAreWritten =
    (events : List Event) (end : End) (size : ℕ) (there : List ℕ) →
    length there + length (text events) ≤ size →
    offer_all (page size) events end there ≡ (end, there ++ text events)

-- the texts of a scope's statements, one behind the other
abbrev pub texts : Place → Scope → Text
texts at done = []
texts at (stmt then rest) = text (reads_one at stmt).events ++ texts at rest

-- the text of a finished reading is that of its statements, joined
abbrev pub TextsAreJoined : Type 0
TextsAreJoined = (at : Place) (scope : Scope) → (reads at scope).end ≡ finished → text (reads at scope).events ≡ texts at scope

-- a sink of any states
abbrev pub sink_over : (State : Type 0) → (highest : ℕ) → (State → List ℕ → Taken State) → Sink
sink_over State highest take = record { State = State; highest = highest; take = take }

-- Any lawful sink takes the pieces of a finished reading just where it takes the text in one piece, and is left the same.
abbrev pub TextsAreOnePiece : Type 0 → Type 0
TextsAreOnePiece State =
    (highest : ℕ) (take : State → List ℕ → Taken State) → Lawful (sink_over State highest take) →
    (events : List Event) (there : State) →
    Same (offer_all (sink_over State highest take) events finished there) (take there (text events))

-- WELL-FORMED TEXT

-- what it answers holds well-formed text only, if what it is given does
abbrev pub AnswersText : Callable → Type 0
AnswersText nothing = Unit {0}
AnswersText (formatter format) = WritesText format
AnswersText (function f) = (args : List Value) (v : Value) → All WellFormedValue args → f args ≡ gives v → WellFormedValue v

pub record HostsAnswerText (hosts : Hosts) : Type 0 where
  pub callables : (name : Text) → AnswersText (hosts.callables name)
  pub default_formatter : WritesText hosts.default_formatter

abbrev pub SourceAnswersText : ValueSource → Type 0
SourceAnswersText from = (path : List Ask) (v : Value) → from path ≡ gives v → WellFormedValue v

-- the chart set with the plain formatter does, and so do the two value sources
pub record ChartHosts : Type 0 where
  pub hosts : HostsAnswerText (record { callables = chart_set; default_formatter = plain })
  pub values : (v : Value) → WellFormedValue v → SourceAnswersText (walk_of v)
  pub pots : (log : List ℕ) → SourceAnswersText (pot_log log)

abbrev pub ChartHostsAnswerText : Type 0
ChartHostsAnswerText = ChartHosts

abbrev pub EachIsText : List Event → Type 0
EachIsText [] = Unit {0}
EachIsText (offers piece ∷ events) = (well_formed piece.bytes ≡ true) × EachIsText events

-- each piece of a rendering of a sound engine is well-formed, and so is their text, however the rendering ends
pub record IsText (reading : Reading) : Type 0 where
  pub pieces : EachIsText reading.events
  pub joined : well_formed (text reading.events) ≡ true

abbrev pub RenderingsAreText : Type 0
RenderingsAreText =
    (hosts : Hosts) (m : Model) (name : Text) (depth : ℕ) (from : ValueSource) (reading : Reading) →
    Sound m → HostsAnswerText hosts →
    (rendering hosts m name depth (parts_of m.loaded) ≡ gives reading → IsText reading)
    × (SourceAnswersText from → rendering hosts m name depth (asking from) ≡ gives reading → IsText reading)

-- a page that holds well-formed text holds such text after a rendering, whatever the answer: also where the page is full
abbrev pub PagesHoldText : Type 0
PagesHoldText =
    (hosts : Hosts) (m : Model) (name : Text) (depth : ℕ) (from : ValueSource) (size : ℕ) (there : List ℕ) →
    Sound m → HostsAnswerText hosts → well_formed there ≡ true →
    (well_formed (call (page size) hosts m there (render name depth)).2 ≡ true)
    × (SourceAnswersText from → well_formed (call (page size) hosts m there (render_from name depth from)).2 ≡ true)
