-- The lines of a report, as bytes.
use Rattle.std.specs.Prelude.{◌≡◌, ℕ, zero, suc, cond, List, [], ◌∷◌, ◌++◌, IfOk, codes, decimal, Result, ◌==◌}
use Rattle.std.specs.declared.alloc.AllocError.{AllocError}
use Rattle.std.specs.Fmt.{signed_decimal}
use Rattle.meaning.specs.Parts.{count_items, count_entries}
use Rattle.meaning.specs.Value.{Value, none, boolean, integer, float, string, list, map}
use Rattle.meaning.specs.Spans.{text_at}
use Rattle.meaning.specs.Tree.{String}
use Rattle.meaning.specs.declared.tree.Member.{Member}
use Rattle.meaning.specs.declared.tree.Span.{Span}

-- the text stands behind what was there before
pub record Adds (text before after : List ℕ) : Type 0 where
  pub is : after ≡ before ++ text

-- the same if it was written; nothing is said of a report for which there was no memory
pub record Wrote {A : Type 0} (text : List ℕ) (r : Result A AllocError) (before after : List ℕ) : Type 0 where
  pub adds : IfOk r (λ _. Adds text before after)

-- a byte of a text in double quotes: quotes, backslashes, line feeds and tabs have a backslash before them
abbrev pub escape : ℕ → List ℕ
escape b =
    cond (b == 34) (codes "\\\"")
    (cond (b == 92) (codes "\\\\")
    (cond (b == 10) (codes "\\n")
    (cond (b == 9) (codes "\\t")
    (b ∷ []))))

abbrev pub escaped : List ℕ → List ℕ
escaped [] = []
escaped (b ∷ text) = escape b ++ escaped text

abbrev pub quoted : List ℕ → List ℕ
quoted text = codes "\"" ++ (escaped text ++ codes "\"")

-- two spaces for each level
abbrev pub indent : (depth : ℕ) → List ℕ
indent zero = []
indent (suc depth) = codes "  " ++ indent depth

abbrev pub place : Span → List ℕ
place s = codes " " ++ (decimal s.start ++ (codes "-" ++ (decimal s.end ++ codes " ")))

-- a list or map is shown by how many parts it has
abbrev pub list_words : ℕ → List ℕ
list_words count = codes "list of " ++ (decimal count ++ codes " parts")

abbrev pub map_words : ℕ → List ℕ
map_words count = codes "map of " ++ (decimal count ++ codes " entries")

-- what a value is, and what it holds
abbrev pub value_text : Value → List ℕ
value_text none = codes "none"
value_text (boolean b) = cond b (codes "true") (codes "false")
value_text (integer n) = codes "integer " ++ signed_decimal n
value_text (float bits) = codes "float of bits " ++ decimal bits
value_text (string t) = codes "string " ++ quoted t
value_text (list vs) = list_words (count_items vs)
value_text (map es) = map_words (count_entries es)

abbrev pub indented : (depth : ℕ) (label : List ℕ) → List ℕ
indented depth label = indent depth ++ label

abbrev pub label_line : (depth : ℕ) (label : List ℕ) → List ℕ
label_line depth label = indented depth label ++ codes "\n"

abbrev pub value_line : (depth : ℕ) → Value → List ℕ
value_line depth v = indented depth (codes "value ") ++ value_text v ++ codes "\n"

module _ (source : List ℕ) where
  -- a span, and the source under it
  abbrev pub mark : Span → List ℕ
  mark s = place s ++ quoted (text_at source s)

  abbrev pub marks : List Member → List ℕ
  marks [] = []
  marks (m ∷ ms) = mark m.span ++ marks ms

  abbrev pub span_line : (depth : ℕ) (label : List ℕ) → Span → List ℕ
  span_line depth label s = indented depth label ++ mark s ++ codes "\n"

  abbrev pub spans_line : (depth : ℕ) (label : List ℕ) → Span → Span → List ℕ
  spans_line depth label s t = indented depth label ++ mark s ++ mark t ++ codes "\n"

  -- a string with its own text, which need not be the source's
  abbrev pub string_line : (depth : ℕ) (label : List ℕ) → String → List ℕ
  string_line depth label k = indented depth label ++ codes " " ++ quoted k.text ++ mark k.span ++ codes "\n"

  abbrev pub members_line : (depth : ℕ) → List Member → List ℕ
  members_line depth ms = indented depth (codes "variable") ++ marks ms ++ codes "\n"
