-- What the renderer is given, by what its hosts mean.
use Rattle.meaning.specs.Hosts.{Callable, Formatter, ValueSource}
use Rattle.meaning.specs.Value.{Text}
use Rattle.render.specs.States.{Given}
use Rattle.render.specs.declared.renderer.RendererImpl.{RendererImpl}

abbrev pub given_by : {S C F : Type 0} → (S → ValueSource) → (C → Text → Callable) → (F → Formatter) → RendererImpl S C F → Given
given_by valued named formatted r =
    record {
      from = valued r.source.now;
      hosts = record { callables = named r.callables.now; default_formatter = formatted r.default_formatter.now };
      max_include_depth = r.max_include_depth;
    }
