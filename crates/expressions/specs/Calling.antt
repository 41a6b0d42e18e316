-- What a call is given.
use Rattle.std.specs.Prelude.{ℕ, List, [], reverse, take}
use Rattle.meaning.specs.Or.{fails}
use Rattle.meaning.specs.Charge.{Charge}
use Rattle.meaning.specs.Expressions.{Argument as Meant}
use Rattle.meaning.specs.Hosts.{Callable, Formatter}
use Rattle.meaning.specs.Reading.{Setting}
use Rattle.meaning.specs.Value.{Text}
use Rattle.store.specs.declared.memory.Store.{Store}
use Rattle.hosts.specs.Answers.{arguments_in}
use Rattle.hosts.specs.declared.answer.Argument.{Argument}

-- of a rendering: what may be made, and what can be asked; neither its templates nor what is visible matters to a call
abbrev pub asking : Charge → (Text → Callable) → Formatter → Setting
asking supply callables default = record { supply = supply; templates = []; hosts = record { callables = callables; default_formatter = default } }

-- no default formatter is asked inside an expression
abbrev pub calling : Charge → (Text → Callable) → Setting
calling supply callables = asking supply callables (λ v. fails 0)

-- the newest values, so many of them, in the order in which they came
abbrev pub arguments : Store → (arity : ℕ) → List Argument → List Meant
arguments s arity values = arguments_in s (reverse (take arity values))
