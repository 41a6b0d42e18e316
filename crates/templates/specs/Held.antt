-- What the templates that an engine holds stand for.
use Rattle.std.specs.Prelude.{◌≡◌, ℕ, zero, suc, ◌<◌, ◌≤◌, Bool, true, false, ◌&&◌, nat_le, List, [], ◌∷◌, length, get_or, take, Some, None, Ok, Err, Result, vec_items, slice_index_or}
use Rattle.std.proofs.Math.Option.{Option, none, some}
use Rattle.std.specs.declared.option.Option as code_option
use Rattle.meaning.specs.Or.{Or, fails, gives}
use Rattle.meaning.specs.Charge.{Charge}
use Rattle.meaning.specs.Fault.{Fault, fault}
use Rattle.meaning.specs.FaultRecords.{fault_of}
use Rattle.meaning.specs.Names.{name_of, well_named}
use Rattle.meaning.specs.Reading.{Template, find}
use Rattle.meaning.specs.Reading as reading
use Rattle.meaning.specs.Tree.{done}
use Rattle.meaning.specs.Value.{Text, Value}
use Rattle.meaning.specs.declared.fault.Cause.TheVariants.{BadName, TemplatesFull, StoreFull}
use Rattle.meaning.specs.declared.fault.Fault as code
use Rattle.meaning.specs.declared.name.Name.{Name}
use Rattle.program.specs.Program as program
use Rattle.compiler.specs.declared.instr.Instr.{Instr}
use Rattle.compiler.specs.Records.{instr_of}
use Rattle.model.specs.Model.{Model}
use Rattle.templates.specs.Entries.{held, trees, named, Goes}
use Rattle.templates.specs.declared.entry.Entry.{Entry}
use Rattle.templates.specs.declared.table.Templates.{Templates}

-- the entries in use
abbrev pub entries_of : Templates → List Entry
entries_of t = take t.count t.entries

abbrev pub templates_of : Templates → reading.Templates
templates_of t = held (vec_items t.bytes) (entries_of t)

-- the engine that holds them
abbrev pub model_of : (supply : Charge) (loaded : Value) → Templates → Model
model_of supply loaded t = record { supply = supply; templates = templates_of t; loaded = loaded }

-- memory for 16 templates, with none in it yet
abbrev pub enough : (bytes instrs : ℕ) → Bool
enough bytes instrs = nat_le 262144 bytes && nat_le 16384 instrs

abbrev pub Opens : (bytes instrs : ℕ) → Result Templates code.Fault → Type 0
Opens bytes instrs (Ok t) = (enough bytes instrs ≡ true) × (templates_of t ≡ [])
Opens bytes instrs (Err f) = (enough bytes instrs ≡ false) × (fault_of f ≡ fault StoreFull 0)

-- the answer of a call and what it leaves, which are the model's: a fault changes nothing
abbrev pub Leaves : (supply : Charge) (loaded : Value) → (before after : Templates) → Or Fault Model → Result (Unit {0}) code.Fault → Type 0
Leaves supply loaded before after (gives m) (Ok u) = model_of supply loaded after ≡ m
Leaves supply loaded before after (gives m) (Err f) = ⊥
Leaves supply loaded before after (fails w) (Ok u) = ⊥
Leaves supply loaded before after (fails w) (Err f) = (fault_of f ≡ w) × (after ≡ before)

-- bytes are a name, or are refused
abbrev pub WellNamed : Text → Result Name code.Fault → Type 0
WellNamed bytes (Ok n) = (well_named bytes ≡ true) × (name_of n ≡ bytes)
WellNamed bytes (Err f) = (well_named bytes ≡ false) × (fault_of f ≡ fault BadName 0)

-- a template of the name has an index to go to, or there is no room for another
abbrev pub HasIndex : Text → Templates → Result ℕ code.Fault → Type 0
HasIndex name t (Ok at) = (at < 16) × Goes name (entries_of t) at
HasIndex name t (Err f) = (length (entries_of t) ≡ 16) × (named name (entries_of t) ≡ false) × (fault_of f ≡ fault TemplatesFull 0)

-- ONE OF THEM, by its index

abbrev nothing : Text × Template
nothing = ([], record { source = []; tree = done })

abbrev pub name_at : reading.Templates → ℕ → Text
name_at templates i = (get_or templates i nothing).0

abbrev pub template_at : reading.Templates → ℕ → Template
template_at templates i = (get_or templates i nothing).1

-- its packed tree
abbrev pub tree_at : Templates → ℕ → List ℕ
tree_at t i = slice_index_or (trees (vec_items t.bytes) (entries_of t)) i []

-- a name is found at the first template that has it
abbrev pub Finds : reading.Templates → Text → code_option.Option ℕ → Type 0
Finds templates name (Some i) = (i < length templates) × (name_at templates i ≡ name) × (find templates name ≡ some (template_at templates i))
Finds templates name None = find templates name ≡ none

-- the instruction of a number, if there is one
abbrev pub instr_at : List program.Instr → ℕ → Option program.Instr
instr_at [] pc = none
instr_at (x ∷ xs) zero = some x
instr_at (x ∷ xs) (suc pc) = instr_at xs pc

-- a record means the instruction of that number, and there is none at the program's end and behind it
abbrev pub Fetches : (tree : List ℕ) → List program.Instr → (pc : ℕ) → code_option.Option Instr → Type 0
Fetches tree code pc (Some i) = (pc < length code) × (instr_of tree i ≡ instr_at code pc)
Fetches tree code pc None = length code ≤ pc

-- a program has at most 1,024 instructions
abbrev pub FewInstrs : (pc : ℕ) → code_option.Option Instr → Type 0
FewInstrs pc (Some i) = pc < 1024
FewInstrs pc None = Unit {0}
