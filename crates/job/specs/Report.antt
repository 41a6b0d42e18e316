-- What a report says of a line: what it asked for, and what came of it.
use Rattle.std.specs.Prelude.{ℕ, cond, List, [], ◌++◌, length, codes, decimal, ◌==◌}
use Rattle.meaning.specs.Or.{Or, fails, gives}
use Rattle.meaning.specs.Fault.{Fault, number}
use Rattle.meaning.specs.Charge.{Charge}
use Rattle.meaning.specs.Tree.{Scope}
use Rattle.packing.specs.Unpacking.{unpack}
use Rattle.calls.specs.BadLines.{bad_words}
use Rattle.calls.specs.declared.word.BadLine.{BadLine}
use Rattle.job.specs.declared.report.Came.{Came}
use Rattle.job.specs.declared.report.Counts.{Counts}
use Rattle.calls.specs.Calls.{Call, passed_over, add, supply, load, format}
use Rattle.job.specs.Causes.{refused_by}
use Rattle.job.specs.Lines.{quoted}
use Rattle.job.specs.Outline.{outline_scope}
use Rattle.job.specs.Listing.{listing}
use Rattle.job.specs.Loads.{came_of_load, load_words}
use Rattle.job.specs.Formats.{came_of_format, format_heading, format_words}
use Rattle.asking.specs.Formats.{formatter_named}
use Rattle.job.specs.Supplies.{supply_words, usable}

abbrev pub heading : (line_number : ℕ) → List ℕ
heading n = codes "line " ++ (decimal n ++ codes ": ")

-- cause 1 is of the source; the others have an offset in the tree
abbrev pub place_words : (cause detail : ℕ) → List ℕ
place_words cause detail =
    cond (cause == 1) (codes "\n") (codes ", at byte " ++ (decimal detail ++ codes " of the tree\n"))

abbrev pub refused_words : Fault → List ℕ
refused_words f = codes ": " ++ refused_by f.cause ++ place_words (number f.cause) f.detail

abbrev pub taken_words : (source tree : List ℕ) → List ℕ
taken_words source tree =
    codes ": taken, source of " ++ (decimal (length source) ++ (codes " bytes, tree of " ++ (decimal (length tree) ++ codes " bytes\n")))

-- what is said behind the name of a template to be added
abbrev pub verdict_words : (source tree : List ℕ) → Or Fault Scope → List ℕ
verdict_words source tree (gives scope) = taken_words source tree ++ outline_scope source 1 scope ++ listing source scope
verdict_words source tree (fails f) = refused_words f

abbrev pub add_words : (line_number : ℕ) (name source tree : List ℕ) → List ℕ
add_words n name source tree =
    heading n ++ codes "add " ++ quoted name ++ verdict_words source tree (unpack source tree)

abbrev pub bad_line : (line_number : ℕ) → BadLine → List ℕ
bad_line n bad = heading n ++ codes "bad line, " ++ bad_words bad ++ codes "\n"

-- what may be used of the supply before the line has a part in what is said of loads
abbrev pub call_words : (used : Charge) (line_number : ℕ) → Or BadLine Call → List ℕ
call_words used n (gives passed_over) = []
call_words used n (gives (add name source tree)) = add_words n name source tree
call_words used n (gives (supply cells bytes)) = heading n ++ supply_words cells bytes (usable cells bytes)
call_words used n (gives (load packed)) = heading n ++ codes "load: " ++ load_words used packed
call_words used n (gives (format name packed)) = heading n ++ format_heading name ++ format_words used (formatter_named name) packed
call_words used n (fails bad) = bad_line n bad

abbrev pub came_of_add : Or Fault Scope → Came
came_of_add (gives scope) = Came.Taken
came_of_add (fails f) = Came.Refused

abbrev pub came_of : (used : Charge) → Or BadLine Call → Came
came_of used (gives passed_over) = Came.Passed
came_of used (gives (add name source tree)) = came_of_add (unpack source tree)
came_of used (gives (supply cells bytes)) = Came.Taken
came_of used (gives (load packed)) = came_of_load used packed
came_of used (gives (format name packed)) = came_of_format used (formatter_named name) packed
came_of used (fails bad) = Came.NoCall

-- what may be used of the supply after the line
abbrev pub usable_after : (used : Charge) → Or BadLine Call → Charge
usable_after used (gives passed_over) = used
usable_after used (gives (add name source tree)) = used
usable_after used (gives (supply cells bytes)) = usable cells bytes
usable_after used (gives (load packed)) = used
usable_after used (gives (format name packed)) = used
usable_after used (fails bad) = used

-- the last line of a report
abbrev pub counts_words : Counts → List ℕ
counts_words c =
    decimal c.taken ++ (codes " taken, " ++ (decimal c.refused ++ (codes " refused, " ++ (decimal c.bad ++ codes " bad lines\n"))))
