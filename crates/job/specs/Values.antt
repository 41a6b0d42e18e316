-- The outline of a value that was loaded: a line for each value, and for each key.
use Rattle.std.specs.Prelude.{ℕ, ◌+◌, List, [], ◌++◌, codes}
use Rattle.meaning.specs.Value.{Value, none, boolean, integer, float, string, list, map, Items, no_items, item, Entries, no_entries, entry, Text}
use Rattle.job.specs.Lines.{label_line, quoted, value_text}

-- the line of a value: its kind, and what it holds
abbrev pub head_line : (depth : ℕ) → Value → List ℕ
head_line depth v = label_line depth (value_text v)

abbrev pub key_line : (depth : ℕ) → Text → List ℕ
key_line depth key = label_line depth (codes "key " ++ quoted key)

unfoldable mutual
  pub outline_value : (depth : ℕ) → Value → List ℕ
  outline_value depth none = head_line depth none
  outline_value depth (boolean b) = head_line depth (boolean b)
  outline_value depth (integer n) = head_line depth (integer n)
  outline_value depth (float bits) = head_line depth (float bits)
  outline_value depth (string t) = head_line depth (string t)
  outline_value depth (list xs) = head_line depth (list xs) ++ outline_items (depth + 1) xs
  outline_value depth (map es) = head_line depth (map es) ++ outline_entries (depth + 1) es

  pub outline_items : (depth : ℕ) → Items → List ℕ
  outline_items depth no_items = []
  outline_items depth (item v xs) = outline_value depth v ++ outline_items depth xs

  pub outline_entries : (depth : ℕ) → Entries → List ℕ
  outline_entries depth no_entries = []
  outline_entries depth (entry k v es) = (key_line depth k ++ outline_value (depth + 1) v) ++ outline_entries depth es
