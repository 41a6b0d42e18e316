-- What the entries of the stack of scopes stand for.
use Rattle.std.specs.Prelude.{ℕ, zero, suc, List, map as each, drop}
use Rattle.std.proofs.Math.ListN.{get_elem?}
use Rattle.std.proofs.Math.Option.{Option, none}
use Rattle.meaning.specs.Value.{Value, Items, no_items, Entries, no_entries}
use Rattle.meaning.specs.Parts.{shape, of_items, of_entries, single, count_items, count_entries}
use Rattle.meaning.specs.Hosts.{ValueSource}
use Rattle.meaning.specs.Reading.{Templates}
use Rattle.meaning.specs.Scopes.{Turn}
use Rattle.meaning.specs.Spans.{text_at}
use Rattle.meaning.specs.Statements.{item_turns, entry_turns}
use Rattle.machine.specs.Machine.{Kind, a_source, a_scope, a_with, a_loop, a_boundary, Entry}
use Rattle.templates.specs.Held.{template_at}
use Rattle.store.specs.Stores.{charged, value}
use Rattle.store.specs.declared.memory.Store.{Store}
use Rattle.decoder.specs.declared.decoded.LoopVars.{LoopVars}
use Rattle.decoder.specs.declared.decoded.LoopVars.TheVariants as vars
use Rattle.scopes.specs.declared.state.LoopState.{LoopState}
use Rattle.scopes.specs.declared.state.Scope.{Scope}
use Rattle.scopes.specs.declared.state.State.{State}
use Rattle.scopes.specs.declared.state.State.TheVariants as states

-- the items of a list, and the entries of a map; another value has none
abbrev pub items_of : Value → Items
items_of v = elim (shape v) [ of_items xs ↦ xs | of_entries es ↦ no_items | single ↦ no_items ]

abbrev pub entries_of : Value → Entries
entries_of v = elim (shape v) [ of_items xs ↦ no_entries | of_entries es ↦ es | single ↦ no_entries ]

-- all turns of a loop over a value
abbrev pub turns_over : (source : List ℕ) → LoopVars → Value → List Turn
turns_over source (vars.Item name) v = item_turns (text_at source name) 0 (count_items (items_of v)) (items_of v)
turns_over source (vars.KeyValue k w both) v =
    entry_turns (text_at source k) (text_at source w) 0 (count_entries (entries_of v)) (entries_of v)

-- the turn before the next, if there is one
abbrev pub begun : (next : ℕ) → List Turn → Option Turn
begun zero all = none
begun (suc n) all = get_elem? all n

-- a loop whose next turn has that number
abbrev pub loop_at : (next : ℕ) → List Turn → Kind
loop_at next all = a_loop (begun next all) (drop next all)

module _ (templates : Templates) where
  abbrev pub source_at : (template : ℕ) → List ℕ
  source_at template = (template_at templates template).source

  module _ (s : Store) where
    abbrev pub loop_in : LoopState → Kind
    loop_in l = loop_at l.next (turns_over (source_at l.template) l.vars (value s l.iterable))

    module _ (from : ValueSource) where
      abbrev pub kind_in : State → Kind
      kind_in states.ValueFn = a_source from
      kind_in (states.Scope r) = a_scope (value s r)
      kind_in (states.Var template name r) = a_with (text_at (source_at template) name) (value s r)
      kind_in (states.Loop l) = loop_in l
      kind_in states.Boundary = a_boundary

      abbrev pub entry_in : Scope → Entry
      entry_in e = record { kind = kind_in e.state; floor = charged e.floor }

      abbrev pub entries_in : List Scope → List Entry
      entries_in es = each entry_in es
