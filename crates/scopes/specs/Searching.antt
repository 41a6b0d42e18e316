-- What code answers where the meaning looks a variable up.
use Rattle.std.specs.Prelude.{◌≡◌, List, Some, None, Ok, Err, Result}
use Rattle.std.specs.declared.option.Option as code_option
use Rattle.meaning.specs.Charge.{Charge, Make, charge}
use Rattle.meaning.specs.Fault.{Fault}
use Rattle.meaning.specs.Or.{Or}
use Rattle.meaning.specs.Scopes.{Had, Visible, look_up}
use Rattle.meaning.specs.Spans.{access_span, text_at}
use Rattle.meaning.specs.Step.{from, ◌>>=◌}
use Rattle.meaning.specs.Tree as tree
use Rattle.meaning.specs.Value.{Text, Value}
use Rattle.meaning.specs.declared.fault.Fault as code_fault
use Rattle.meaning.specs.declared.tree.Span.{Span}
use Rattle.machine.specs.Machine.{Kind, seen}
use Rattle.reader.specs.Fields.{members_of}
use Rattle.store.specs.Stores.{supply, used}
use Rattle.store.specs.declared.cell.Ref.{Ref}
use Rattle.store.specs.declared.memory.Store.{Store}
use Rattle.scopes.specs.Told.{Tells}
use Rattle.scopes.specs.declared.var.Var.{Var}

abbrev pub var_of : Var → tree.Var
var_of v = record { first = v.first; rest = members_of v.rest }

-- the text of the first access
abbrev pub first_text : Var → Text
first_text v = text_at v.source.now (access_span v.first.access)

abbrev pub looked_up : Var → List Visible → Or Fault Had
looked_up v visible = look_up v.source.now visible (var_of v)

-- a value that was found is paid for at that span
abbrev pub paid : (supply : Charge) → Span → Or Fault Had → Make Value
paid supply span found = do
  had ← from found
  charge supply span had.1 had.0

-- code has that value, or faults so
abbrev pub Has : (before after : Store) → Span → Or Fault Had → Result Ref code_fault.Fault → Type 0
Has before after span found r = Tells before after (paid (supply before) span found (used before)) r

-- it is had here, or faults; or the search goes outward, and nothing changed
abbrev pub Answers : (before after : Store) → Span → (here outward : Or Fault Had) → Result (code_option.Option Ref) code_fault.Fault → Type 0
Answers before after span here outward (Ok (Some r)) = Has before after span here (Ok r)
Answers before after span here outward (Ok None) = (here ≡ outward) × (after ≡ before)
Answers before after span here outward (Err f) = Has before after span here (Err f)

-- an entry's answer, whatever is visible outside it
abbrev pub Searches : (before after : Store) → Var → Kind → Result (code_option.Option Ref) code_fault.Fault → Type 0
Searches before after v kind r =
    (outer : List Visible) → Answers before after v.span (looked_up v (seen kind outer)) (looked_up v outer) r
