-- How members go down into values, and what stands in lists and maps.
use Rattle.std.specs.Prelude.{◌≡◌, ℕ, cond, List, ◌++◌, ◌==◌}
use Rattle.std.proofs.Math.Option.{some}
use Rattle.std.specs.Str.{bytes_eq as same_text}
use Rattle.meaning.specs.Value.{Value, Items, Entries, Text}
use Rattle.meaning.specs.declared.tree.AccessOp.TheVariants.{Direct, Optional}
use Rattle.meaning.specs.declared.tree.Member.{Member}
use Rattle.meaning.specs.Parts.{count_items, nth, append, value_of, insert}
use Rattle.meaning.specs.Walk.{Wanted, Walked, found, missed, failed, part_at, walk}
use Rattle.meaning.specs.Scopes.{ask}

-- goes on from a value that was found
abbrev pub onward : (source : List ℕ) → Walked Member → List Member → Walked Member
onward source (found w) further = walk (ask source) w further
onward source missed further = missed
onward source (failed m cause detail) further = failed m cause detail

-- a path is walked member by member: first the one half, and from what that finds the other
abbrev pub PathsAreWalkedInOrder : Type 0
PathsAreWalkedInOrder =
    (source : List ℕ) (v : Value) (first further : List Member) →
    walk (ask source) v (first ++ further) ≡ onward source (walk (ask source) v first) further

-- an optional member finds what a direct one finds, and misses only where the direct one fails
pub record OptionalLikeDirect (m : Member) (v : Value) (wanted : Wanted) : Type 0 where
  pub finds : (part : Value) → part_at m Direct v wanted ≡ found part → part_at m Optional v wanted ≡ found part
  pub no_other : (part : Value) → part_at m Optional v wanted ≡ found part → part_at m Direct v wanted ≡ found part
  pub never_misses : ¬ (part_at m Direct v wanted ≡ missed)

abbrev pub OptionalMattersForTheAbsent : Type 0
OptionalMattersForTheAbsent = (m : Member) (v : Value) (wanted : Wanted) → OptionalLikeDirect m v wanted

-- a key finds the part that was put in under it last, and the others find what they found
abbrev pub InsertingReplaces : Type 0
InsertingReplaces =
    (key other : Text) (v : Value) (entries : Entries) →
    value_of (insert key v entries) other ≡ cond (same_text other key) (some v) (value_of entries other)

-- a part that is appended is the last, and the others stay where they are
abbrev pub AppendingComesLast : Type 0
AppendingComesLast =
    (items : Items) (v : Value) (n : ℕ) →
    nth (append items v) n ≡ cond (n == count_items items) (some v) (nth items n)
