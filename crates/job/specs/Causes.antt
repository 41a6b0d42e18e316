-- The words for causes.
use Rattle.std.specs.Prelude.{List, ℕ, ◌++◌, codes, decimal}
use Rattle.meaning.specs.Fault.{number}
use Rattle.meaning.specs.declared.fault.Cause.{Cause}

-- a cause in words
abbrev pub cause_words : Cause → List ℕ
cause_words Cause.BadSource = codes "the source is too long or is not well-formed text"
cause_words Cause.Malformed = codes "the packed bytes are cut, over-long, left over or break the format"
cause_words Cause.Misplaced = codes "a span is reversed, past the source or inside a character"
cause_words Cause.TooDeep = codes "the nesting is too deep"
cause_words Cause.TooManyInstructions = codes "the template has too many instructions"
cause_words Cause.BadName = codes "the name has not 1 to 32 bytes"
cause_words Cause.TemplatesFull = codes "16 templates are held already"
cause_words Cause.UnknownName = codes "no template of that name is held"
cause_words Cause.IncludeDepthTooHigh = codes "the include depth is above 32"
cause_words Cause.NotInScope = codes "the variable is not in scope"
cause_words Cause.NoSuchKey = codes "the map has no such key"
cause_words Cause.NoSuchIndex = codes "the list has no such index"
cause_words Cause.WrongAccess = codes "a value of this kind has no such member"
cause_words Cause.NoParts = codes "this has no members"
cause_words Cause.NotIterable = codes "this is neither a list nor a map"
cause_words Cause.WrongLoopNames = codes "a list takes one loop name, and a map two"
cause_words Cause.UnknownFunction = codes "no function of that name is known"
cause_words Cause.UnknownEmitted = codes "no formatter or function of that name is known"
cause_words Cause.FormatterInside = codes "a formatter cannot stand inside an expression"
cause_words Cause.FormatterCount = codes "a formatter takes just one value"
cause_words Cause.Refused = codes "a host refused"
cause_words Cause.UnknownTemplate = codes "no template of that name is held"
cause_words Cause.TooManyOpen = codes "too many templates are open"
cause_words Cause.SinkStopped = codes "the sink stopped"
cause_words Cause.StoreFull = codes "the store is full"
cause_words Cause.TextTooLong = codes "a formatter's text is too long"

-- a cause by number and in words
abbrev pub refused_by : Cause → List ℕ
refused_by cause = codes "refused by cause " ++ (decimal (number cause) ++ codes ", ") ++ cause_words cause
