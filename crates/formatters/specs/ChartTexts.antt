-- The chart set keeps to well-formed text.
use Rattle.std.proofs.Common.{List, [], ◌∷◌, Bool, true, false, cond, codes}
use Rattle.std.specs.Str.{bytes_eq as same_text}
use Rattle.meaning.specs.Hosts.{nothing, formatter, function}
use Rattle.meaning.specs.Value.{Value, Text, none, boolean, integer, float, string, list, map}
use Rattle.meaning.specs.Formatters.{chart_set, lat, lon, len}
use Rattle.packing.proofs.Texts.{formatters_write_text}
use Rattle.hosts.specs.Answers.{CallableTexts, AllText, GivesText}

len_gives_text : (vs : List Value) → AllText vs → GivesText (len vs)
len_gives_text [] text = tt
len_gives_text (none ∷ []) text = tt
len_gives_text (boolean b ∷ []) text = tt
len_gives_text (integer n ∷ []) text = tt
len_gives_text (float bits ∷ []) text = tt
len_gives_text (string t ∷ []) text = tt
len_gives_text (list xs ∷ []) text = tt
len_gives_text (map es ∷ []) text = tt
len_gives_text (v ∷ w ∷ more) text = tt

by_name : (is_len is_lat is_lon : Bool) → CallableTexts (cond is_len (function len) (cond is_lat (formatter lat) (cond is_lon (formatter lon) nothing)))
by_name true is_lat is_lon = len_gives_text
by_name false true is_lon = formatters_write_text.1 (codes "lat")
by_name false false true = formatters_write_text.1 (codes "lon")
by_name false false false = tt

pub chart_texts : (name : Text) → CallableTexts (chart_set name)
chart_texts name = by_name (same_text name (codes "len")) (same_text name (codes "lat")) (same_text name (codes "lon"))
