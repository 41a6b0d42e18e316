-- What an entry of the table stands for, in the memory that it points into: a place has 8,192 bytes for a source, behind
-- them 8,192 for a tree, and 1,024 instructions.
use Rattle.std.specs.Prelude.{◌≡◌, ℕ, suc, ◌+◌, ◌-◌, ◌*◌, ◌<◌, ◌≤◌, Bool, true, false, cond, ◌&&◌, ◌||◌, ◌⊎◌, List, [], ◌∷◌, ◌++◌, length, take, drop, Some, None, ◌==◌}
use Rattle.std.proofs.Math.Option.{Option, none, some}
use Rattle.std.specs.Str.{bytes_eq as same_text}
use Rattle.std.specs.declared.option.Option as code_option
use Rattle.meaning.specs.Or.{Or, fails, gives}
use Rattle.meaning.specs.Fault.{Fault}
use Rattle.meaning.specs.Names.{name_of}
use Rattle.meaning.specs.Reading.{Template, Templates}
use Rattle.meaning.specs.Tree.{Scope, done}
use Rattle.meaning.specs.Value.{Text}
use Rattle.packing.specs.Unpacking.{unpack}
use Rattle.program.specs.Program as program
use Rattle.checker.specs.Whole.{unpacks}
use Rattle.compiler.specs.declared.instr.Instr.{Instr}
use Rattle.compiler.specs.Records.{instr_of}
use Rattle.templates.specs.Codes.{same, instr_code}
use Rattle.templates.specs.declared.entry.Entry.{Entry}

-- the bytes and the instructions of a place
abbrev pub bytes_at : List ℕ → ℕ → List ℕ
bytes_at bytes place = take 16384 (drop (place * 16384) bytes)

abbrev pub instrs_at : List Instr → ℕ → List Instr
instrs_at instrs place = take 1024 (drop (place * 1024) instrs)

abbrev pub source_of : List ℕ → Entry → List ℕ
source_of bytes e = take e.source_len (bytes_at bytes e.place)

abbrev pub tree_of : List ℕ → Entry → List ℕ
tree_of bytes e = take e.tree_len (drop 8192 (bytes_at bytes e.place))

abbrev pub records_of : List Instr → Entry → List Instr
records_of instrs e = take e.len (instrs_at instrs e.place)

-- the scope that was unpacked; of each template that is held there is one
abbrev pub scope_of : Or Fault Scope → Scope
scope_of (gives scope) = scope
scope_of (fails f) = done

abbrev pub template_from : (source tree : List ℕ) → Template
template_from source tree = record { source = source; tree = scope_of (unpack source tree) }

abbrev pub template_of : List ℕ → Entry → Template
template_of bytes e = template_from (source_of bytes e) (tree_of bytes e)

-- the templates that the entries stand for, in their order
abbrev pub held : List ℕ → List Entry → Templates
held bytes [] = []
held bytes (e ∷ es) = (name_of e.name, template_of bytes e) ∷ held bytes es

-- the packed trees, in the same order
abbrev pub trees : List ℕ → List Entry → List (List ℕ)
trees bytes [] = []
trees bytes (e ∷ es) = tree_of bytes e ∷ trees bytes es

-- one of the entries has the name
abbrev pub named : Text → List Entry → Bool
named name [] = false
named name (e ∷ es) = same_text name (name_of e.name) || named name es

-- the first entry that has the name stands at the index
pub record First (name : Text) (es : List Entry) (at : ℕ) : Type 0 where
  pub entry : Entry
  pub within : at < length es
  pub is : drop at es ≡ entry ∷ drop (suc at) es
  pub has : same_text name (name_of entry.name) ≡ true
  pub before : named name (take at es) ≡ false

abbrev pub Located : Text → List Entry → code_option.Option ℕ → Type 0
Located name es (Some at) = First name es at
Located name es None = named name es ≡ false

-- a template of the name belongs at the index: in the place of the first that has the name, or else behind all
abbrev pub Goes : Text → List Entry → ℕ → Type 0
Goes name es at = First name es at ⊎ ((at ≡ length es) × (named name es ≡ false))

-- the entries from `at` up to `end`, of which the first is put last
abbrev pub closed : List Entry → (at end : ℕ) → List Entry
closed es at end =
    let part = take (end - at) (drop at es) in take at es ++ ((drop 1 part ++ take 1 part) ++ drop end es)

-- WHAT ALWAYS HOLDS

-- the record means the instruction
unfoldable pub is_meant : Option program.Instr → program.Instr → Bool
is_meant none x = false
is_meant (some y) x = same (instr_code y) (instr_code x)

-- the records mean the instructions, one by one
unfoldable pub means : (tree : List ℕ) → List Instr → List program.Instr → Bool
means tree [] [] = true
means tree [] (x ∷ xs) = false
means tree (i ∷ is) [] = false
means tree (i ∷ is) (x ∷ xs) = is_meant (instr_of tree i) x && means tree is xs

-- source and tree unpack, and the records mean the program of the tree that they unpack to
unfoldable pub sound : (source tree : List ℕ) → List Instr → Bool
sound source tree records = unpacks source tree && means tree records (program.compile (template_from source tree).tree)

abbrev pub all_sound : List ℕ → List Instr → List Entry → Bool
all_sound bytes instrs [] = true
all_sound bytes instrs (e ∷ es) = sound (source_of bytes e) (tree_of bytes e) (records_of instrs e) && all_sound bytes instrs es

-- how many of the entries lie at a place
abbrev pub lies : ℕ → Entry → ℕ
lies place e = cond (e.place == place) 1 0

abbrev pub times : ℕ → List Entry → ℕ
times place [] = 0
times place (e ∷ es) = lies place e + times place es

-- no two entries lie at one place
abbrev pub Apart : List Entry → Type 0
Apart es = (place : ℕ) → times place es ≤ 1
