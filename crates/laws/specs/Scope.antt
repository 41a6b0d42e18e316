-- What the names of withs and loops stand for, and what they hide.
use Rattle.std.specs.Prelude.{◌≡◌, ◌⊎◌, ℕ, suc, List, [], ◌∷◌, ◌++◌, codes}
use Rattle.meaning.specs.Or.{fails, gives}
use Rattle.meaning.specs.Value.{Value, string, list, map, Items, no_items, item, Entries, no_entries, entry, Text}
use Rattle.meaning.specs.declared.tree.Span.{Span}
use Rattle.meaning.specs.declared.tree.Access.{Access}
use Rattle.meaning.specs.declared.tree.Access.TheVariants.{Index, Key}
use Rattle.meaning.specs.declared.tree.Member.{Member}
use Rattle.meaning.specs.Tree.{Var, Expr, Item, KeyValue, For, Scope}
use Rattle.meaning.specs.Spans.{text_at, access_span}
use Rattle.meaning.specs.declared.fault.Cause.{Cause}
use Rattle.meaning.specs.Fault.{fault_at}
use Rattle.meaning.specs.Parts.{count_items, count_entries}
use Rattle.meaning.specs.Charge.{Charge, one_cell}
use Rattle.meaning.specs.Walk.{found, missed, failed, walk}
use Rattle.meaning.specs.Scopes.{Visible, named, looping, Current, one_item, one_entry, Turn, stored, loop_value, ask, walked, loop_variable, look_up}
use Rattle.meaning.specs.Reading.{Reading, ◌followed_by◌, silence}
use Rattle.laws.specs.Places.{Place, evaluates, reads_one, reads, seeing, holding, where_visible}

-- WHAT IS VISIBLE

-- every variable of every template finds the same
abbrev pub FindTheSame : List Visible → List Visible → Type 0
FindTheSame here there = (source : List ℕ) (v : Var) → look_up source here v ≡ look_up source there v

-- what is visible matters only for what variables find
abbrev pub OnlyWhatIsFoundCounts : Type 0
OnlyWhatIsFoundCounts =
    (at : Place) (other : List Visible) (scope : Scope) →
    FindTheSame at.visible other → reads at scope ≡ reads (where_visible at other) scope

-- WITHS

-- the text under a variable's first member
abbrev pub first_text : (source : List ℕ) → Var → Text
first_text source v = text_at source (access_span v.first.access)

-- a variable of a with's name finds its value there, whatever else is visible; any other finds what it finds outside
pub record InAWith (source : List ℕ) (name : Text) (value : Value) (outside : List Visible) (v : Var) : Type 0 where
  pub its_name : first_text source v ≡ name → look_up source (named name value ∷ outside) v ≡ walked source value v.rest
  pub others : ¬ (first_text source v ≡ name) → look_up source (named name value ∷ outside) v ≡ look_up source outside v

abbrev pub WithsNameTheirValue : Type 0
WithsNameTheirValue = (source : List ℕ) (name : Text) (value : Value) (outside : List Visible) (v : Var) → InAWith source name value outside v

-- inside a with, an outer with of the same name might as well not be there, whatever stands between
abbrev pub WithsHideTheirName : Type 0
WithsHideTheirName =
    (at : Place) (name : Text) (inner outer : Value) (between outside : List Visible) (scope : Scope) →
    reads (where_visible at (named name inner ∷ (between ++ (named name outer ∷ outside)))) scope
    ≡ reads (where_visible at (named name inner ∷ (between ++ outside))) scope

-- LOOPS

-- the names of a loop: of an item, or of a key and of a value
abbrev pub IsNameOf : Current → Text → Type 0
IsNameOf (one_item name v) text = text ≡ name
IsNameOf (one_entry key_name value_name k v) text = (text ≡ key_name) ⊎ (text ≡ value_name)

-- whether a loop answers a variable that begins so: with one of its names, or with the name `loop`
abbrev pub IsAnswered : (source : List ℕ) → Turn → Access → Type 0
IsAnswered source turn (Index n span) = ⊥
IsAnswered source turn (Key span) = (text_at source span ≡ codes "loop") ⊎ IsNameOf turn.current (text_at source span)

-- any other variable finds in a loop what it finds outside
abbrev pub LoopsHideTheirNames : Type 0
LoopsHideTheirNames =
    (source : List ℕ) (turn : Turn) (outside : List Visible) (v : Var) →
    ¬ IsAnswered source turn v.first.access → look_up source (looping turn ∷ outside) v ≡ look_up source outside v

-- What a variable finds that begins with the name of an item, or of a loop's value: from the item on it is walked, and a miss goes outward.
pub record Found (source : List ℕ) (item : Value) (here outside : List Visible) (v : Var) : Type 0 where
  pub there : (w : Value) → walk (ask source) item v.rest ≡ found w → look_up source here v ≡ gives (stored w)
  pub absent : walk (ask source) item v.rest ≡ missed → look_up source here v ≡ look_up source outside v
  pub refused :
      (m : Member) (cause : Cause) (detail : ℕ) → walk (ask source) item v.rest ≡ failed m cause detail →
      look_up source here v ≡ fails (fault_at cause m.span detail)

-- an item's name stands for the item of that turn, unless it is `loop`
abbrev pub ItemsAreOfTheirTurn : Type 0
ItemsAreOfTheirTurn =
    (source : List ℕ) (name : Text) (item : Value) (position length : ℕ) (outside : List Visible) (v : Var) (span : Span) →
    v.first.access ≡ Key span → text_at source span ≡ name → ¬ (name ≡ codes "loop") →
    Found source item (looping (record { current = one_item name item; position = position; length = length }) ∷ outside) outside v

-- A key's name alone stands for the key of that turn, and a value's name for the value, unless it is the key's name too.
pub record OfAnEntry (source : List ℕ) (key_name value_name key : Text) (value : Value) (here outside : List Visible) (v : Var) (text : Text) : Type 0 where
  pub the_key : text ≡ key_name → v.rest ≡ [] → look_up source here v ≡ gives (string key, one_cell)
  pub the_value : text ≡ value_name → ¬ (text ≡ key_name) → Found source value here outside v

abbrev pub EntriesAreOfTheirTurn : Type 0
EntriesAreOfTheirTurn =
    (source : List ℕ) (key_name value_name key : Text) (value : Value) (position length : ℕ) (outside : List Visible) (v : Var) (span : Span) →
    v.first.access ≡ Key span → ¬ (text_at source span ≡ codes "loop") →
    OfAnEntry source key_name value_name key value
    (looping (record { current = one_entry key_name value_name key value; position = position; length = length }) ∷ outside) outside v (text_at source span)

-- `loop` stands for the turn's own position, whatever the loop's names are and whatever is visible outside
abbrev pub LoopIsOfTheInnermost : Type 0
LoopIsOfTheInnermost =
    (source : List ℕ) (turn : Turn) (outside : List Visible) (v : Var) (span : Span) →
    v.first.access ≡ Key span → text_at source span ≡ codes "loop" →
    look_up source (looping turn ∷ outside) v ≡ loop_variable source (loop_value turn) v.rest

-- one reading for each item in order, by its position and the item
abbrev pub for_each_item : (ℕ → Value → Reading) → (position : ℕ) → Items → Reading
for_each_item turn position no_items = silence
for_each_item turn position (item v rest) = turn position v followed_by for_each_item turn (suc position) rest

abbrev pub for_each_entry : (ℕ → Text → Value → Reading) → (position : ℕ) → Entries → Reading
for_each_entry turn position no_entries = silence
for_each_entry turn position (entry k v rest) = turn position k v followed_by for_each_entry turn (suc position) rest

-- a loop reads its body for each item in order, with what the iterable costs in use
abbrev pub LoopsReadEachItem : Type 0
LoopsReadEachItem =
    (at : Place) (name : Span) (e : Expr) (body : Scope) (items : Items) (held : Charge) →
    evaluates at e ≡ gives (list items, held) →
    reads_one at (For (Item name) e body)
    ≡ for_each_item
    (λ position v.
    reads (holding (seeing at (looping (record { current = one_item (text_at at.source name) v; position = position; length = count_items items }))) held)
    body)
    0 items

abbrev pub LoopsReadEachEntry : Type 0
LoopsReadEachEntry =
    (at : Place) (key_name value_name both : Span) (e : Expr) (body : Scope) (entries : Entries) (held : Charge) →
    evaluates at e ≡ gives (map entries, held) →
    reads_one at (For (KeyValue key_name value_name both) e body)
    ≡ for_each_entry
    (λ position k v.
    reads
    (holding
    (seeing at
    (looping (record {
      current = one_entry (text_at at.source key_name) (text_at at.source value_name) k v;
      position = position;
      length = count_entries entries;
    }))) held)
    body)
    0 entries
