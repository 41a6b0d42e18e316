-- What hosts answer in code, from what they mean.
use Rattle.std.specs.Prelude.{◌≡◌, ℕ, ◌≤◌, true, false, cond, List, [], ◌∷◌, map as each, length, take, Some, None, Option, Ok, Err, Result, nat_le}
use Rattle.meaning.specs.Or.{Or, fails, gives}
use Rattle.meaning.specs.Value.{Value, Text}
use Rattle.meaning.specs.Charge.{◌⊕◌, cost, within}
use Rattle.meaning.specs.FaultRecords.{given}
use Rattle.meaning.specs.Hosts.{Reason, Callable, nothing, formatter, function, Formatter, Function, Refusal as Blame}
use Rattle.meaning.specs.Expressions.{Argument as Meant}
use Rattle.packing.specs.Texts.{WellFormedValue, NamesText}
use Rattle.store.specs.Stores.{Known, Added, PutBack, supply, used, value}
use Rattle.store.specs.declared.cell.Ref.{Ref}
use Rattle.store.specs.declared.memory.Store.{Store}
use Rattle.hosts.specs.declared.answer.Argument.{Argument}
use Rattle.hosts.specs.declared.answer.CallableKind.{CallableKind}
use Rattle.hosts.specs.declared.answer.CallableKind.TheVariants as kinds
use Rattle.hosts.specs.declared.answer.Refusal.{Refusal}
use Rattle.hosts.specs.declared.answer.Unmade.{Unmade}
use Rattle.hosts.specs.declared.answer.Unmade.TheVariants as unmade
use Rattle.hosts.specs.declared.answer.Unwritten.{Unwritten}
use Rattle.hosts.specs.declared.answer.Unwritten.TheVariants as unwritten

-- TEXTS

-- a text where there is so much room, or why there is none
abbrev pub fitted : (room : ℕ) → Or Reason Text → Result Text Unwritten
fitted room (fails reason) = Err (unwritten.Refused reason)
fitted room (gives text) = cond (nat_le (length text) room) (Ok text) (Err unwritten.TooLong)

-- the text that was written to the front of a buffer
abbrev pub written : Result ℕ Unwritten → List ℕ → Result Text Unwritten
written (Ok n) buffer = Ok (take n buffer)
written (Err why) buffer = Err why

-- it lies within the buffer
abbrev pub Within : Result ℕ Unwritten → List ℕ → Type 0
Within (Ok n) buffer = n ≤ length buffer
Within (Err why) buffer = Unit {0}

-- VALUES

-- The answer was made in the store and charged whole; or it does not fit, or was refused, and what is in use is as it was.
abbrev pub Answers : {E W : Type 0} → (E → W) → (before after : Store) → Or W Value → Result Ref (Unmade E) → Type 0
Answers why before after (gives v) (Ok r) =
    (within (supply before) (used before ⊕ cost v) ≡ true) × Added before after (cost v) v r
Answers why before after (gives v) (Err unmade.Full) =
    (within (supply before) (used before ⊕ cost v) ≡ false) × PutBack before after
Answers why before after (gives v) (Err (unmade.Refused e)) = ⊥
Answers why before after (fails w) (Ok r) = ⊥
Answers why before after (fails w) (Err unmade.Full) = ⊥
Answers why before after (fails w) (Err (unmade.Refused e)) = (why e ≡ w) × PutBack before after

-- CALLABLES

abbrev pub kind_of : Callable → Option CallableKind
kind_of nothing = None
kind_of (formatter f) = Some kinds.Formatter
kind_of (function f) = Some kinds.Function

-- the formatter that a name stands for; one that refuses everything where it stands for none
abbrev pub formatter_of : Callable → Formatter
formatter_of nothing v = fails 0
formatter_of (formatter f) v = f v
formatter_of (function f) v = fails 0

-- the function that a name stands for, likewise
abbrev pub function_of : Callable → Function
function_of nothing vs = fails (record { reason = 0; argument = mathlib.Core.Option.none })
function_of (formatter f) vs = fails (record { reason = 0; argument = mathlib.Core.Option.none })
function_of (function f) vs = f vs

abbrev pub blame_of : Refusal → Blame
blame_of r = record { reason = r.reason; argument = given (λ n. n) r.argument }

-- what arguments stand for, each with where it is reported
abbrev pub argument_in : Store → Argument → Meant
argument_in s a = (value s a.value, a.span)

abbrev pub arguments_in : Store → List Argument → List Meant
arguments_in s args = each (argument_in s) args

abbrev pub values_in : Store → List Argument → List Value
values_in s args = each (λ a. a.0) (arguments_in s args)

abbrev pub AllKnown : Store → List Argument → Type 0
AllKnown s [] = Unit {0}
AllKnown s (a ∷ args) = Known s a.value × AllKnown s args

-- WELL-FORMED TEXT

-- a value, if there is one, holds only well-formed text
abbrev pub GivesText : {W : Type 0} → Or W Value → Type 0
GivesText (gives v) = WellFormedValue v
GivesText (fails w) = Unit {0}

abbrev pub AllText : List Value → Type 0
AllText [] = Unit {0}
AllText (v ∷ vs) = WellFormedValue v × AllText vs

-- a formatter writes such text, and a function answers with it, if they are given such
abbrev pub CallableTexts : Callable → Type 0
CallableTexts nothing = Unit {0}
CallableTexts (formatter f) = NamesText (formatter f)
CallableTexts (function f) = (vs : List Value) → AllText vs → GivesText (f vs)
