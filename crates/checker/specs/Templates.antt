-- What a checked template holds.
use Rattle.std.specs.Prelude.{◌≡◌, ℕ, List, Ok, Err, Result}
use Rattle.meaning.specs.declared.fault.Fault.{Fault}
use Rattle.checker.specs.declared.template.Template.{Template}

abbrev pub source_of : Template → List ℕ
source_of t = t.source.now

abbrev pub tree_of : Template → List ℕ
tree_of t = t.tree.now

-- with success the template holds just these bytes, and with a fault it is as before
abbrev pub Becomes : (source tree : List ℕ) → (before after : Template) → Result (Unit {0}) Fault → Type 0
Becomes source tree before after (Ok u) = (source_of after ≡ source) × (tree_of after ≡ tree)
Becomes source tree before after (Err f) = (source_of after ≡ source_of before) × (tree_of after ≡ tree_of before)
