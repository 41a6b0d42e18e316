-- What names find, and what they hide.
use Rattle.std.proofs.Common.{◌≡◌, ℕ, suc, Bool, true, false, cond, List, [], ◌∷◌, ◌++◌, codes, map as each, sym, refl, ap, ◌∙◌, subst, inl, inr}
use mathlib.Core.Option.{Option, none, some}
use Rattle.std.specs.Cmp.Lexicographic.{bytes_decides}
use Rattle.std.specs.Str.{bytes_eq as same_text}
use Rattle.meaning.specs.Or.{Or, fails, gives}
use Rattle.meaning.specs.Value.{Value, string, list, map, Items, no_items, item, Entries, no_entries, entry, Text}
use Rattle.meaning.specs.declared.tree.Span.{Span}
use Rattle.meaning.specs.declared.tree.Access.{Access}
use Rattle.meaning.specs.declared.tree.Access.TheVariants.{Index, Key}
use Rattle.meaning.specs.declared.tree.Member.{Member}
use Rattle.meaning.specs.Tree.{Var, Expr}
use Rattle.meaning.specs.Spans.{text_at}
use Rattle.meaning.specs.Fault.{Fault, fault_at}
use Rattle.meaning.specs.Parts.{count_items, count_entries}
use Rattle.meaning.specs.Charge.{Charge, one_cell}
use Rattle.meaning.specs.Walk.{Walked, found, missed, failed}
use Rattle.meaning.specs.Scopes.{Visible, named, looping, Current, one_item, one_entry, Turn, Had, stored, walked, in_item, in_current, in_turn, no_further, loop_variable, loop_value, look_up}
use Rattle.meaning.specs.Reading.{Reading, ◌followed_by◌}
use Rattle.meaning.specs.Statements.{item_turns, entry_turns, in_order, once_had, having, read_stmt}
use Rattle.laws.specs.Places.{Place, opening, evaluates, reads, seeing, holding, where_visible}
use Rattle.laws.specs.Scope.{FindTheSame, first_text, InAWith, WithsNameTheirValue, WithsHideTheirName, IsNameOf, IsAnswered, LoopsHideTheirNames, Found, ItemsAreOfTheirTurn, EntriesAreOfTheirTurn, LoopIsOfTheInnermost, for_each_item, for_each_entry, LoopsReadEachItem, LoopsReadEachEntry}
use Rattle.laws.proofs.Statements.{behind_one}
use Rattle.laws.proofs.Same.{only_what_is_found_counts}

-- TEXTS

pub is_same : (a b : Text) → a ≡ b → same_text a b ≡ true
is_same a b = (bytes_decides a b).1

pub not_same : (a b : Text) → ¬ (a ≡ b) → same_text a b ≡ false
not_same a b differ = by (same_text a b) refl
  where
    by : (x : Bool) → same_text a b ≡ x → x ≡ false
    by true e = absurd (differ ((bytes_decides a b).0 e))
    by false e = refl

-- WITHS

pub withs_name_their_value : WithsNameTheirValue
unfolding look_up
withs_name_their_value source name value outside v = record {
  its_name = λ e. ap answer (is_same name (first_text source v) (sym e));
  others = λ differ. ap answer (not_same name (first_text source v) (λ e. differ (sym e)));
}
  where
    answer : Bool → Or Fault Had
    answer x = elim x [ true ↦ walked source value v.rest | false ↦ look_up source outside v ]

-- behind any layers, what a with does not name is found beyond it
beyond : (name : Text) (value : Value) (between outside : List Visible) (source : List ℕ) (v : Var) → ¬ (first_text source v ≡ name) →
    look_up source (between ++ (named name value ∷ outside)) v ≡ look_up source (between ++ outside) v
beyond name value [] outside source v differ = (withs_name_their_value source name value outside v).others differ
beyond name value (layer ∷ between) outside source v differ =
    behind_one layer (between ++ (named name value ∷ outside)) (between ++ outside) source v (beyond name value between outside source v differ)

abbrev pub IsFalse : Bool → Type 0
IsFalse true = ⊥
IsFalse false = Unit {0}

hidden : (name : Text) (inner outer : Value) (between outside : List Visible) →
    FindTheSame (named name inner ∷ (between ++ (named name outer ∷ outside))) (named name inner ∷ (between ++ outside))
hidden name inner outer between outside source v = by (same_text name (first_text source v)) refl
  where
    here : InAWith source name inner (between ++ (named name outer ∷ outside)) v
    here = withs_name_their_value source name inner (between ++ (named name outer ∷ outside)) v

    there : InAWith source name inner (between ++ outside) v
    there = withs_name_their_value source name inner (between ++ outside) v

    by : (x : Bool) → same_text name (first_text source v) ≡ x →
        look_up source (named name inner ∷ (between ++ (named name outer ∷ outside))) v ≡ look_up source (named name inner ∷ (between ++ outside)) v
    by true e =
        let its : first_text source v ≡ name = sym ((bytes_decides name (first_text source v)).0 e) in
        here.its_name its ∙ sym (there.its_name its)
    by false e =
        let differ : ¬ (first_text source v ≡ name) = λ its. subst IsFalse (sym e ∙ is_same name (first_text source v) (sym its)) tt in
        here.others differ ∙ beyond name outer between outside source v differ ∙ sym (there.others differ)

pub withs_hide_their_name : WithsHideTheirName
withs_hide_their_name at name inner outer between outside scope =
    only_what_is_found_counts (where_visible at (named name inner ∷ (between ++ (named name outer ∷ outside)))) (named name inner ∷ (between ++ outside)) scope
    (hidden name inner outer between outside)

-- LOOPS

module _ (source : List ℕ) where
  no_name : (current : Current) (text : Text) (ms : List Member) → ¬ IsNameOf current text → in_current source current text ms ≡ none
  no_name (one_item name v) text ms other =
      ap (λ (x : Bool). cond x (in_item source v ms) none) (not_same text name other)
  no_name (one_entry key_name value_name k v) text ms other =
      ap (λ (x : Bool). cond x (some (no_further source (gives (string k, one_cell)) ms)) (cond (same_text text value_name) (in_item source v ms) none))
      (not_same text key_name (λ e. other (inl e)))
      ∙ ap (λ (x : Bool). cond x (in_item source v ms) none) (not_same text value_name (λ e. other (inr e)))

  -- a name that is not `loop`
  not_loop : (turn : Turn) (span : Span) (ms : List Member) → ¬ (text_at source span ≡ codes "loop") →
      in_turn source turn (Key span) ms ≡ in_current source turn.current (text_at source span) ms
  not_loop turn span ms other =
      ap (λ (x : Bool). cond x (some (loop_variable source (loop_value turn) ms)) (in_current source turn.current (text_at source span) ms))
      (not_same (text_at source span) (codes "loop") other)

  not_answered : (turn : Turn) (access : Access) (ms : List Member) → ¬ IsAnswered source turn access → in_turn source turn access ms ≡ none
  not_answered turn (Index n span) ms other = refl
  not_answered turn (Key span) ms other =
      not_loop turn span ms (λ e. other (inl e)) ∙ no_name turn.current (text_at source span) ms (λ e. other (inr e))

  module _ (outside : List Visible) (v : Var) where
    outward : Option (Or Fault Had) → Or Fault Had
    outward o = elim o [ some had ↦ had | none ↦ look_up source outside v ]

    in_a_loop : (turn : Turn) → look_up source (looping turn ∷ outside) v ≡ outward (in_turn source turn v.first.access v.rest)
    unfolding look_up outward
    in_a_loop turn = refl

    not_in_a_loop : (o : Option (Or Fault Had)) → o ≡ none → outward o ≡ look_up source outside v
    unfolding outward
    not_in_a_loop o e = ap outward e

    found_in : (value : Value) (here : List Visible) → look_up source here v ≡ outward (in_item source value v.rest) → Found source value here outside v
    unfolding outward
    found_in value here e = record {
      there = λ w walks. e ∙ ap answer walks;
      absent = λ walks. e ∙ ap answer walks;
      refused = λ m cause detail walks. e ∙ ap answer walks;
    }
      where
        answer : Walked Member → Or Fault Had
        answer result =
            let item : Option (Or Fault Had) =
            elim result [
              | found w ↦ some (gives (stored w))
              | missed ↦ none
              | failed m cause detail ↦ some (fails (fault_at cause m.span detail))
            ] in
            outward item

    by_key : (turn : Turn) (span : Span) → v.first.access ≡ Key span → ¬ (text_at source span ≡ codes "loop") →
        look_up source (looping turn ∷ outside) v ≡ outward (in_current source turn.current (text_at source span) v.rest)
    by_key turn span is_key other =
        in_a_loop turn
        ∙ ap (λ (access : Access). outward (in_turn source turn access v.rest)) is_key
        ∙ ap outward (not_loop turn span v.rest other)

pub loops_hide_their_names : LoopsHideTheirNames
loops_hide_their_names source turn outside v other =
    in_a_loop source outside v turn
    ∙ not_in_a_loop source outside v _ (not_answered source turn v.first.access v.rest other)

pub items_are_of_their_turn : ItemsAreOfTheirTurn
items_are_of_their_turn source name value position length outside v span is_key its other =
    found_in source outside v value _
    (by_key source outside v (record { current = one_item name value; position = position; length = length }) span is_key (λ e. other (sym its ∙ e))
    ∙ ap (λ (x : Bool). outward source outside v (cond x (in_item source value v.rest) none)) (is_same (text_at source span) name its))

pub entries_are_of_their_turn : EntriesAreOfTheirTurn
unfolding outward
entries_are_of_their_turn source key_name value_name key value position length outside v span is_key other = record {
  the_key = λ its alone.
      here
      ∙ ap (λ (x : Bool). outward source outside v (cond x (some (no_further source (gives (string key, one_cell)) v.rest)) second)) (is_same text key_name its)
      ∙ ap (λ (rest : List Member). no_further source (gives (string key, one_cell)) rest) alone;
  the_value = λ its differs.
      found_in source outside v value _
      (here
      ∙ ap (λ (x : Bool). outward source outside v (cond x (some (no_further source (gives (string key, one_cell)) v.rest)) second))
      (not_same text key_name differs)
      ∙ ap (λ (x : Bool). outward source outside v (cond x (in_item source value v.rest) none)) (is_same text value_name its));
}
  where
    text : Text
    text = text_at source span

    second : Option (Or Fault Had)
    second = cond (same_text text value_name) (in_item source value v.rest) none

    turn : Turn
    turn = record { current = one_entry key_name value_name key value; position = position; length = length }

    here : look_up source (looping turn ∷ outside) v ≡ outward source outside v (in_current source turn.current text v.rest)
    here = by_key source outside v turn span is_key other

pub loop_is_of_the_innermost : LoopIsOfTheInnermost
unfolding outward
loop_is_of_the_innermost source turn outside v span is_key its =
    in_a_loop source outside v turn
    ∙ ap (λ (access : Access). outward source outside v (in_turn source turn access v.rest)) is_key
    ∙ ap (λ (x : Bool).
    outward source outside v (cond x (some (loop_variable source (loop_value turn) v.rest)) (in_current source turn.current (text_at source span) v.rest)))
    (is_same (text_at source span) (codes "loop") its)

-- TURNS

item_turns_in_order : (one : Turn → Reading) (name : Text) (position length : ℕ) (items : Items) →
    in_order (each one (item_turns name position length items))
    ≡ for_each_item (λ p v. one (record { current = one_item name v; position = p; length = length })) position items
item_turns_in_order one name position length no_items = refl
item_turns_in_order one name position length (item v rest) =
    ap (λ (r : Reading). one (record { current = one_item name v; position = position; length = length }) followed_by r)
    (item_turns_in_order one name (suc position) length rest)

entry_turns_in_order : (one : Turn → Reading) (key_name value_name : Text) (position length : ℕ) (entries : Entries) →
    in_order (each one (entry_turns key_name value_name position length entries))
    ≡ for_each_entry (λ p k v. one (record { current = one_entry key_name value_name k v; position = p; length = length })) position entries
entry_turns_in_order one key_name value_name position length no_entries = refl
entry_turns_in_order one key_name value_name position length (entry k v rest) =
    ap (λ (r : Reading). one (record { current = one_entry key_name value_name k v; position = position; length = length }) followed_by r)
    (entry_turns_in_order one key_name value_name (suc position) length rest)

-- what is read with the value of an expression
pub had_value : (at : Place) (e : Expr) (next : Value × Charge → Reading) (v : Value) (held : Charge) → evaluates at e ≡ gives (v, held) →
    having at.setting at.name at.source (opening at.setting at.more) e at.visible at.used next ≡ next (v, held)
had_value at e next v held gave = ap (λ (r : Or Fault (Value × Charge)). once_had at.setting at.name at.source (opening at.setting at.more) r next) gave

pub loops_read_each_item : LoopsReadEachItem
unfolding read_stmt
loops_read_each_item at name e body items held gave =
    had_value at e _ (list items) held gave
    ∙ item_turns_in_order (λ turn. reads (holding (seeing at (looping turn)) held) body) (text_at at.source name) 0 (count_items items) items

pub loops_read_each_entry : LoopsReadEachEntry
unfolding read_stmt
loops_read_each_entry at key_name value_name both e body entries held gave =
    had_value at e _ (map entries) held gave
    ∙ entry_turns_in_order (λ turn. reads (holding (seeing at (looping turn)) held) body) (text_at at.source key_name) (text_at at.source value_name) 0
    (count_entries entries) entries
