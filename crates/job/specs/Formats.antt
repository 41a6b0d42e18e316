-- What a report says of a packed value that a formatter writes, by its bytes and the supply alone.
use Rattle.std.specs.Prelude.{ℕ, cond, List, ◌++◌, length, codes, decimal, Ok, Err, Result, nat_le}
use Rattle.meaning.specs.Charge.{Charge, cost, within}
use Rattle.meaning.specs.Fault.{Fault}
use Rattle.meaning.specs.Hosts.{Formatter, Reason}
use Rattle.meaning.specs.Or.{Or, fails, gives}
use Rattle.meaning.specs.Value.{Value, Text}
use Rattle.meaning.specs.declared.fault.Cause.TheVariants.{StoreFull}
use Rattle.packing.specs.Unpacking.{unpack_value}
use Rattle.calls.specs.declared.line.FormatterName.{FormatterName}
use Rattle.calls.specs.declared.line.FormatterName.TheVariants as names
use Rattle.hosts.specs.declared.answer.Unwritten.{Unwritten}
use Rattle.hosts.specs.declared.answer.Unwritten.TheVariants as unwritten
use Rattle.asking.specs.Formats.{reason_words}
use Rattle.job.specs.declared.report.Came.{Came}
use Rattle.job.specs.Causes.{refused_by}
use Rattle.job.specs.Lines.{quoted}
use Rattle.job.specs.Loads.{cost_words, offset_words}

abbrev pub format_heading : FormatterName → List ℕ
format_heading names.Plain = codes "format plain: "
format_heading names.Lat = codes "format lat: "
format_heading names.Lon = codes "format lon: "

abbrev pub short_words : Text → List ℕ
short_words text = codes "taken, text of " ++ (decimal (length text) ++ codes " bytes, ") ++ quoted text ++ codes "\n"

abbrev pub long_words : List ℕ
long_words = codes "refused, the text is longer than 4096 bytes\n"

abbrev pub why_words : Reason → List ℕ
why_words reason = codes "refused for reason " ++ (decimal reason ++ codes ", ") ++ reason_words reason ++ codes "\n"

-- the text that a formatter answers, or its reason
abbrev pub text_words : Or Reason Text → List ℕ
text_words (gives text) = cond (nat_le (length text) 4096) (short_words text) long_words
text_words (fails reason) = why_words reason

abbrev pub came_of_text : Or Reason Text → Came
came_of_text (gives text) = cond (nat_le (length text) 4096) Came.Taken Came.Refused
came_of_text (fails reason) = Came.Refused

-- the same of what code is told
abbrev pub told_words : Result Text Unwritten → List ℕ
told_words (Ok text) = short_words text
told_words (Err (unwritten.Refused reason)) = why_words reason
told_words (Err unwritten.TooLong) = long_words

abbrev pub came_told : Result Text Unwritten → Came
came_told (Ok text) = Came.Taken
came_told (Err why) = Came.Refused

module _ (supply : Charge) (f : Formatter) where
  -- of a value that is unpacked and loaded; or why it is refused
  abbrev pub formatted_words : Or Fault Value → List ℕ
  formatted_words (gives v) = cond (within supply (cost v)) (text_words (f v)) (refused_by StoreFull ++ cost_words supply (cost v))
  formatted_words (fails w) = refused_by w.cause ++ offset_words w.detail

  abbrev pub format_words : (packed : List ℕ) → List ℕ
  format_words packed = formatted_words (unpack_value packed)

  abbrev pub came_formatted : Or Fault Value → Came
  came_formatted (gives v) = cond (within supply (cost v)) (came_of_text (f v)) Came.Refused
  came_formatted (fails w) = Came.Refused

  abbrev pub came_of_format : (packed : List ℕ) → Came
  came_of_format packed = came_formatted (unpack_value packed)
