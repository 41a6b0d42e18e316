-- What a job's line asks for.
use Rattle.std.specs.Prelude.{◌≡◌, ℕ, ◌-◌, cond, ◌&&◌, List, [], ◌∷◌, length, take, drop, Some, None, Ok, Err, vec_items, codes, Result, ◌==◌, nat_lt, slice_index}
use Rattle.std.specs.Str.{bytes_eq as same_text}
use Rattle.std.specs.Borrow.{Bor}
use Rattle.std.specs.declared.option.Option as code
use Rattle.meaning.specs.Or.{Or, fails, gives}
use Rattle.meaning.specs.Step.{return, ◌>>=◌, ◌>>◌}
use Rattle.calls.specs.declared.word.BadLine.{BadLine}
use Rattle.calls.specs.declared.word.BadLine.TheVariants.{NoCall, MissingWord, NoSpace, MoreWords, NoFormatter}
use Rattle.calls.specs.declared.word.Failure.{Failure}
use Rattle.calls.specs.declared.word.Failure.TheVariants.{Memory, Bad}
use Rattle.calls.specs.declared.line.Line.{Line}
use Rattle.calls.specs.declared.line.Line.TheVariants.{Add, Supply, Load, Format}
use Rattle.calls.specs.declared.line.FormatterName.{FormatterName}
use Rattle.calls.specs.declared.line.FormatterName.TheVariants.{Plain, Lat, Lon}
use Rattle.calls.specs.Words.{Reads, word}
use Rattle.calls.specs.Numbers.{number}

pub data Call : Type 0 where
  -- an empty line, or a comment
  passed_over : Call
  add : (name source tree : List ℕ) → Call
  supply : (cells bytes : ℕ) → Call
  load : (packed : List ℕ) → Call
  format : FormatterName → (packed : List ℕ) → Call

-- one space
unfoldable pub space : Reads (Unit {0})
space [] = fails MissingWord
space (c ∷ s) = cond (c == 32) (gives (tt, s)) (fails NoSpace)

unfoldable pub line_end : Reads (Unit {0})
line_end [] = gives (tt, [])
line_end (c ∷ s) = fails MoreWords

-- name, source and tree, a space between each and the next
unfoldable pub added : Reads Call
added = do
  name ← word
  space
  source ← word
  space
  tree ← word
  line_end
  return (add name source tree)

unfoldable pub supplied : Reads Call
supplied = do
  cells ← number
  space
  bytes ← number
  line_end
  return (supply cells bytes)

unfoldable pub loaded : Reads Call
loaded = do
  packed ← word
  line_end
  return (load packed)

-- a formatter by its word
unfoldable pub formatter : Reads FormatterName
formatter s =
    cond (same_text (codes "plain") (take 5 s)) (gives (Plain, drop 5 s))
    (cond (same_text (codes "lat") (take 3 s)) (gives (Lat, drop 3 s))
    (cond (same_text (codes "lon") (take 3 s)) (gives (Lon, drop 3 s))
    (fails NoFormatter)))

unfoldable pub formatted : Reads Call
formatted = do
  name ← formatter
  space
  packed ← word
  line_end
  return (format name packed)

-- what was read, if the line was read to its end
abbrev pub read_off : Or BadLine (Call × List ℕ) → Or BadLine Call
read_off (gives (call, rest)) = gives call
read_off (fails bad) = fails bad

-- by the name that the line begins with
abbrev pub named : List ℕ → Or BadLine Call
named line =
    cond (same_text (codes "add ") (take 4 line)) (read_off (added (drop 4 line)))
    (cond (same_text (codes "supply ") (take 7 line)) (read_off (supplied (drop 7 line)))
    (cond (same_text (codes "load ") (take 5 line)) (read_off (loaded (drop 5 line)))
    (cond (same_text (codes "format ") (take 7 line)) (read_off (formatted (drop 7 line)))
    (fails NoCall))))

unfoldable pub call_of : (line : List ℕ) → Or BadLine Call
call_of [] = gives passed_over
call_of (c ∷ s) = cond (c == 35) (gives passed_over) (named (c ∷ s))

abbrev pub call_is : Line → Call
call_is (Add name source tree) = add (vec_items name) (vec_items source) (vec_items tree)
call_is (Supply cells bytes) = supply cells bytes
call_is (Load packed) = load (vec_items packed)
call_is (Format name packed) = format name (vec_items packed)

-- nothing is said where there was no memory
abbrev pub Asks : List ℕ → Result (code.Option Line) Failure → Type 0
Asks line (Ok None) = call_of line ≡ gives passed_over
Asks line (Ok (Some l)) = call_of line ≡ gives (call_is l)
Asks line (Err Memory) = Unit {0}
Asks line (Err (Bad b)) = call_of line ≡ fails b

-- what is read as a call is what the line means, or the words behind its name
abbrev pub Called : Or BadLine Call → Result Line Failure → Type 0
Called o (Ok l) = o ≡ gives (call_is l)
Called o (Err Memory) = Unit {0}
Called o (Err (Bad b)) = o ≡ fails b

-- the same of words that need no memory
abbrev pub CalledAtOnce : Or BadLine Call → Result Line BadLine → Type 0
CalledAtOnce o (Ok l) = o ≡ gives (call_is l)
CalledAtOnce o (Err b) = o ≡ fails b

abbrev pub Skips : (left : List ℕ) → Result (Bor (List ℕ)) BadLine → Type 0
Skips left (Ok rest) = space left ≡ gives (tt, rest.now)
Skips left (Err bad) = space left ≡ fails bad

abbrev pub NamesFormatter : (left : List ℕ) → Result (FormatterName × Bor (List ℕ)) BadLine → Type 0
NamesFormatter left (Ok r) = formatter left ≡ gives (r.0, r.1.now)
NamesFormatter left (Err bad) = formatter left ≡ fails bad

-- the bytes without the last one, if it is that one
abbrev pub without_last : List ℕ → ℕ → List ℕ
without_last bytes last =
    cond (nat_lt 0 (length bytes) && slice_index bytes (length bytes - 1) == last) (take (length bytes - 1) bytes) bytes
