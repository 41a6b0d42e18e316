-- The formatters that a job's lines name, and the words for their reasons.
use Rattle.std.specs.Prelude.{ℕ, cond, List, codes, ◌==◌}
use Rattle.meaning.specs.Formatters.{plain, lat, lon, wrong_kind, out_of_range, no_floats}
use Rattle.meaning.specs.Hosts.{Formatter, Reason}
use Rattle.calls.specs.declared.line.FormatterName.{FormatterName}
use Rattle.calls.specs.declared.line.FormatterName.TheVariants as names

abbrev pub formatter_named : FormatterName → Formatter
formatter_named names.Plain = plain
formatter_named names.Lat = lat
formatter_named names.Lon = lon

abbrev pub reason_words : Reason → List ℕ
reason_words reason =
    cond (reason == wrong_kind) (codes "the value is of the wrong kind")
    (cond (reason == out_of_range) (codes "the value is out of range")
    (cond (reason == no_floats) (codes "floats are not written")
    (codes "a reason without words")))
