-- How faults and pieces are reported.
use Rattle.std.specs.Prelude.{◌≡◌, ◌⊎◌, ◌≤◌, Bool, true, not, ◌&&◌, List, [], ◌∷◌, length, ◌==◌, nat_le}
use Rattle.std.proofs.Math.Option.{none, some}
use Rattle.meaning.specs.Value.{Text}
use Rattle.meaning.specs.declared.tree.Span.{Span}
use Rattle.meaning.specs.declared.fault.Cause.{Cause}
use Rattle.meaning.specs.declared.fault.Cause.TheVariants.{TooManyOpen}
use Rattle.meaning.specs.Fault.{number, Fault, fault}
use Rattle.meaning.specs.Tree.{Scope}
use Rattle.meaning.specs.Reading.{Piece, Event, offers, End, finished, faulted, Reading, Template, find}
use Rattle.laws.specs.Places.{Place, reads, called}

-- the causes from 10 to 26 that a reading ends in: 23 is of no span, and 24 is the sink's
abbrev pub is_of_a_span : Cause → Bool
is_of_a_span cause = nat_le 10 (number cause) && nat_le (number cause) 26 && not (number cause == 23) && not (number cause == 24)

-- the template in which something stands, or one that is held
abbrev pub IsRead : Place → Text → Type 0
IsRead at name = (name ≡ at.name) ⊎ ((template : Template) × (find at.setting.templates name ≡ some template))

pub record AtASpan (at : Place) (f : Fault) : Type 0 where
  pub name : Text
  pub is_read : IsRead at name
  pub in_it : f.template ≡ some name
  pub span : Span
  pub there : f.span ≡ some span
  pub cause : is_of_a_span f.cause ≡ true

-- a reading ends in 23, which has neither template nor span; or in another cause from 10 to 26, at a span of a template that was read; never in 24
abbrev pub FaultsSayWhere : Type 0
FaultsSayWhere =
    (at : Place) (scope : Scope) (f : Fault) → (reads at scope).end ≡ faulted f → (f ≡ fault TooManyOpen 0) ⊎ AtASpan at f

-- a piece is raw and has no span, or is the text of an inline expression and has at most 4,096 bytes
pub data RawOrShort (piece : Piece) : Type 0 where
  raw : piece.span ≡ none → RawOrShort piece
  short : (span : Span) → piece.span ≡ some span → length piece.bytes ≤ 4096 → RawOrShort piece

abbrev pub Pieces : Place → List Event → Type 0
Pieces at [] = Unit {0}
Pieces at (offers piece ∷ events) = (IsRead at piece.template × RawOrShort piece) × Pieces at events

-- each piece names a template that was read, and is raw or short
abbrev pub PiecesSayWhere : Type 0
PiecesSayWhere = (at : Place) (scope : Scope) → Pieces at (reads at scope).events

-- a reading without the names that it reports
abbrev pub nameless_fault : Fault → Fault
nameless_fault f = record f { template = none }

abbrev pub nameless_end : End → End
nameless_end finished = finished
nameless_end (faulted f) = faulted (nameless_fault f)

abbrev pub nameless_events : List Event → List Event
nameless_events [] = []
nameless_events (offers piece ∷ events) = offers (record piece { template = [] }) ∷ nameless_events events

abbrev pub nameless : Reading → Reading
nameless r = record { events = nameless_events r.events; end = nameless_end r.end }

-- what a template is called is only reported: under another name the same is read but for names
abbrev pub NamesAreOnlyReported : Type 0
NamesAreOnlyReported = (at : Place) (name : Text) (scope : Scope) → nameless (reads at scope) ≡ nameless (reads (called at name) scope)
