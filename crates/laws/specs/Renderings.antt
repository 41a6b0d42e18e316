-- What the renderings of an engine do not depend on.
use Rattle.std.specs.Prelude.{◌≡◌, ℕ, ◌≤◌, true}
use Rattle.std.proofs.Math.Option.{some}
use Rattle.meaning.specs.Or.{gives}
use Rattle.meaning.specs.Value.{Value, Text}
use Rattle.meaning.specs.declared.fault.Cause.TheVariants.{TooManyOpen, StoreFull}
use Rattle.meaning.specs.declared.tree.Span.{Span}
use Rattle.meaning.specs.Fault.{Fault}
use Rattle.meaning.specs.Charge.{Charge, cost, within}
use Rattle.meaning.specs.Hosts.{Hosts, ValueSource}
use Rattle.meaning.specs.Scopes.{Visible, asking}
use Rattle.meaning.specs.Reading.{faulted, Reading, Template, find}
use Rattle.meaning.specs.SinkLaws.{Tower, sink_of}
use Rattle.packing.specs.Limits.{inside}
use Rattle.model.specs.Model.{Model, put, without, with_templates, with_loaded, render, render_from, rendering, call}
use Rattle.model.specs.Laws.{Sound}
use Rattle.laws.specs.GoesOn.{GoesOn}
use Rattle.laws.specs.Included.{EachIncluded}

-- an engine to which so much is supplied
abbrev pub supplied : Model → Charge → Model
supplied m supply = record { supply = supply; templates = m.templates; loaded = m.loaded }

-- what is rendered is rendered also under a larger supply, and the same is read, unless it ends under the smaller in a full store
abbrev pub MoreSupplyRendersTheSame : Type 0
MoreSupplyRendersTheSame =
    (hosts : Hosts) (m : Model) (supply : Charge) (name : Text) (depth : ℕ) (bottom : Visible) (reading : Reading) →
    within supply m.supply ≡ true →
    rendering hosts m name depth bottom ≡ gives reading →
    (other : Reading) × (rendering hosts (supplied m supply) name depth bottom ≡ gives other) × GoesOn StoreFull reading other

-- Where a value source is asked, the loaded value is not seen. It only takes room: if another costs no more, the same is read, unless it ends in a
-- full store.
abbrev pub LoadedValuesOnlyTakeRoom : Type 0
LoadedValuesOnlyTakeRoom =
    (hosts : Hosts) (m : Model) (v : Value) (name : Text) (depth : ℕ) (from : ValueSource) (reading : Reading) →
    within (cost m.loaded) (cost v) ≡ true →
    rendering hosts m name depth (asking from) ≡ gives reading →
    (other : Reading) × (rendering hosts (with_loaded m v) name depth (asking from) ≡ gives other) × GoesOn StoreFull reading other

-- the same under a higher maximum, unless it ends under the lower with one too many
abbrev pub HigherMaximaRenderTheSame : Type 0
HigherMaximaRenderTheSame =
    (hosts : Hosts) (m : Model) (name : Text) (depth higher : ℕ) (bottom : Visible) (reading : Reading) →
    depth ≤ higher → higher ≤ 32 →
    rendering hosts m name depth bottom ≡ gives reading →
    (other : Reading) × (rendering hosts m name higher bottom ≡ gives other) × GoesOn TooManyOpen reading other

-- no template but itself includes that name
abbrev pub Unused : Model → Text → Type 0
Unused m name =
    (other : Text) (template : Template) → ¬ (other ≡ name) → find m.templates other ≡ some template →
    EachIncluded (λ included. ¬ (included ≡ name)) template.tree

-- whether a template that no other includes is added, replaced or removed: the others render the same
abbrev pub UnusedTemplatesChangeNothing : Type 0
UnusedTemplatesChangeNothing =
    (hosts : Hosts) (m : Model) (name : Text) (template : Template) (other : Text) (depth : ℕ) (bottom : Visible) →
    Unused m name → ¬ (other ≡ name) →
    (rendering hosts (with_templates m (put name template m.templates)) other depth bottom ≡ rendering hosts m other depth bottom)
    × (rendering hosts (with_templates m (without name m.templates)) other depth bottom ≡ rendering hosts m other depth bottom)

-- a span of a template that is held lies in that template's source: not reversed, and between characters at both ends
pub record InItsSource (m : Model) (f : Fault) (span : Span) : Type 0 where
  pub name : Text
  pub in_it : f.template ≡ some name
  pub template : Template
  pub held : find m.templates name ≡ some template
  pub lies : inside template.source span ≡ true

-- where a rendering of a sound engine answers with a fault at a span: also where its sink stops
abbrev pub FaultsLieInTheirSource : Type 0
FaultsLieInTheirSource =
    (hosts : Hosts) (t : Tower) (m : Model) (s : (sink_of t).State) (name : Text) (depth : ℕ) (from : ValueSource) (f : Fault) (span : Span) →
    Sound m → f.span ≡ some span →
    ((call (sink_of t) hosts m s (render name depth)).0 ≡ faulted f → InItsSource m f span)
    × ((call (sink_of t) hosts m s (render_from name depth from)).0 ≡ faulted f → InItsSource m f span)
