-- What keeps the stack of scopes in order, and what its entries mean: pushing and popping, a store that grows or is put back, a loop that goes on.
use Rattle.std.proofs.Common.{◌≡◌, ◌≤◌, true, List, [], ◌∷◌, Some, take, sym, refl, ap, ap₂, ◌∙◌, subst, le_trans, arith}
use Rattle.std.proofs.lemmas.List.{take-take}
use Rattle.machine.specs.Machine.{Kind, a_scope, a_with, Entry}
use Rattle.meaning.specs.Charge.{Charge}
use Rattle.meaning.specs.Hosts.{ValueSource}
use Rattle.meaning.specs.Reading.{Templates}
use Rattle.meaning.specs.Spans.{text_at}
use Rattle.meaning.specs.Value.{Value}
use Rattle.store.specs.Cells.{below}
use Rattle.store.specs.Kinds.{kind_of, size_of}
use Rattle.store.specs.Stores.{Freed, Height, Over, cells_of, charged, text_of, used, value}
use Rattle.store.specs.declared.cell.Ref.{Ref}
use Rattle.store.specs.declared.memory.Store.{Store}
use Rattle.store.specs.declared.memory.Tally.{Tally}
use Rattle.store.proofs.Cells.{sound_at}
use Rattle.store.proofs.Stores.{over_height, over_itself, cells_paid, bytes_paid}
use Rattle.scopes.specs.Entries.{source_at, turns_over, loop_at, kind_in, entry_in, entries_in}
use Rattle.scopes.specs.Iterating.{StillFits}
use Rattle.scopes.specs.Layers.{Layered, StateFits}
use Rattle.scopes.proofs.Stacks.{low_more}
use Rattle.scopes.specs.declared.state.LoopState.{LoopState}
use Rattle.scopes.specs.declared.state.Scope.{Scope}
use Rattle.scopes.specs.declared.state.State.{State}
use Rattle.scopes.specs.declared.state.State.TheVariants as states

-- PUSHING, POPPING, GOING ON

module _ (templates : Templates) (s : Store) where
  -- under a higher tally
  pub layered_below : (above higher : Charge) (es : List Scope) → above.cells ≤ higher.cells → above.bytes ≤ higher.bytes → Layered templates s above es → Layered templates s higher es
  layered_below above higher [] c b l = l
  layered_below above higher (e ∷ es) c b l =
      (record { height = l.0.height; cells_low = le_trans l.0.cells_low c; bytes_low = le_trans l.0.bytes_low b; fits = l.0.fits }, l.1)

  -- an entry that fits, at the height of the tally
  pub push_layered : (state : State) (floor : Tally) (es : List Scope) → floor ≡ s.tally.now → StateFits templates s (used s) state → Layered templates s (used s) es
      → Layered templates s (used s) (record { state = state; floor = floor } ∷ es)
  push_layered state floor es at fits l =
      let here : charged floor ≡ used s = ap charged at in (
        record {
          height = subst (Height s) (sym here) (over_height s s (over_itself s));
          cells_low = omega (arith, cells_paid here);
          bytes_low = omega (arith, bytes_paid here);
          fits = subst (λ c. StateFits templates s c state) (sym here) fits;
        },
        subst (λ c. Layered templates s c es) (sym here) l,
      )

  pub pop_layered : (above : Charge) (e : Scope) (es : List Scope) → Layered templates s above (e ∷ es) → Layered templates s above es
  pop_layered above e es l = layered_below (charged e.floor) above es l.0.cells_low l.0.bytes_low l.1

  -- a loop on top goes into its next turn
  pub turn_layered : (above : Charge) (before after : LoopState) (floor : Tally) (es : List Scope) → StillFits templates s before (Some after)
      → Layered templates s above (record { state = states.Loop before; floor = floor } ∷ es) → Layered templates s above (record { state = states.Loop after; floor = floor } ∷ es)
  turn_layered above before after floor es still l =
      (record { height = l.0.height; cells_low = l.0.cells_low; bytes_low = l.0.bytes_low; fits = still (charged floor) l.0.fits }, l.1)

-- ANOTHER STORE

-- the store b has what lies below that height of the store a
record Keeps (at : Charge) (a b : Store) : Type 0 where
  heights : (low : Charge) → low.cells ≤ at.cells → low.bytes ≤ at.bytes → Height a low → Height b low
  values : (r : Ref) → below at.cells r ≡ true → value b r ≡ value a r

over_keeps : (a b : Store) → Over a b → Keeps (used a) a b
over_keeps a b o = record {
  heights = λ low c d h.
      let grown = over_height a b o in
      record {
        cells_low = le_trans c grown.cells_low;
        bytes_low = le_trans d grown.bytes_low;
        sound = sound_at
            (sym (take-take low.bytes (used a).bytes (text_of b) d) ∙ ap (take low.bytes) o.text_under)
            (sym (take-take low.cells (used a).cells (cells_of b) c) ∙ ap (take low.cells) o.cells_under)
            h.sound;
      };
  values = o.keeps;
}

freed_keeps : (a b : Store) (at : Charge) → Freed a b at → Keeps at a b
freed_keeps a b at f = record {
  heights = λ low c d h. record {
    cells_low = omega (arith, c, cells_paid f.at_height);
    bytes_low = omega (arith, d, bytes_paid f.at_height);
    sound = sound_at
        (ap (take low.bytes) f.text_kept ∙ take-take low.bytes at.bytes (text_of a) d)
        (ap (take low.cells) f.cells_kept ∙ take-take low.cells at.cells (cells_of a) c)
        h.sound;
  };
  values = λ r k. f.keeps r (subst (λ (c : Charge). below c.cells r ≡ true) (sym f.at_height) k);
}

module _ (templates : Templates) (a b : Store) (at : Charge) (k : Keeps at a b) where
  low_value : (low : Charge) (r : Ref) → low.cells ≤ at.cells → below low.cells r ≡ true → value b r ≡ value a r
  low_value low r l h = k.values r (low_more low.cells at.cells r l h)

  state_kept : (low : Charge) (state : State) → low.cells ≤ at.cells → StateFits templates a low state → StateFits templates b low state
  state_kept low states.ValueFn l f = f
  state_kept low (states.Scope r) l f = f
  state_kept low (states.Var template name r) l f = f
  state_kept low (states.Loop loop) l f =
      let same = low_value low loop.iterable l f.low in
      record { named = f.named; low = f.low; kind = ap kind_of same ∙ f.kind; within = subst (λ (v : Value). loop.next ≤ size_of v) (sym same) f.within }
  state_kept low states.Boundary l f = f

  layered_kept : (above : Charge) (es : List Scope) → above.cells ≤ at.cells → above.bytes ≤ at.bytes → Layered templates a above es → Layered templates b above es
  layered_kept above [] c d l = l
  layered_kept above (e ∷ es) c d l =
      let low = le_trans l.0.cells_low c in
      let less = le_trans l.0.bytes_low d in (
        record {
          height = k.heights (charged e.floor) low less l.0.height;
          cells_low = l.0.cells_low;
          bytes_low = l.0.bytes_low;
          fits = state_kept (charged e.floor) e.state low l.0.fits;
        },
        layered_kept (charged e.floor) es low less l.1,
      )

  module _ (from : ValueSource) where
    kind_kept : (low : Charge) (state : State) → low.cells ≤ at.cells → StateFits templates a low state → kind_in templates b from state ≡ kind_in templates a from state
    kind_kept low states.ValueFn l f = refl
    kind_kept low (states.Scope r) l f = ap a_scope (low_value low r l f)
    kind_kept low (states.Var template name r) l f = ap (a_with (text_at (source_at templates template) name)) (low_value low r l f.1)
    kind_kept low (states.Loop loop) l f = ap (λ v. loop_at loop.next (turns_over (source_at templates loop.template) loop.vars v)) (low_value low loop.iterable l f.low)
    kind_kept low states.Boundary l f = refl

    entries_kept : (above : Charge) (es : List Scope) → above.cells ≤ at.cells → Layered templates a above es → entries_in templates b from es ≡ entries_in templates a from es
    entries_kept above [] c l = refl
    entries_kept above (e ∷ es) c l =
        let low = le_trans l.0.cells_low c in
        let same : entry_in templates b from e ≡ entry_in templates a from e =
        ap (λ (kind : Kind). record { kind = kind; floor = charged e.floor }) (kind_kept (charged e.floor) e.state low l.0.fits) in
        ap₂ (λ (x : Entry) (xs : List Entry). x ∷ xs) same (entries_kept (charged e.floor) es low l.1)

module _ (templates : Templates) (a b : Store) (es : List Scope) where
  -- what grew
  pub over_layered : Over a b → Layered templates a (used a) es → Layered templates b (used b) es
  over_layered o l =
      let grown = over_height a b o in
      layered_below templates b (used a) (used b) es grown.cells_low grown.bytes_low
      (layered_kept templates a b (used a) (over_keeps a b o) (used a) es (omega arith) (omega arith) l)

  pub over_entries : (from : ValueSource) → Over a b → Layered templates a (used a) es → entries_in templates b from es ≡ entries_in templates a from es
  over_entries from o l = entries_kept templates a b (used a) (over_keeps a b o) from (used a) es (omega arith) l

-- what was put back to the floor of the top entry
module _ (templates : Templates) (a b : Store) (above : Charge) (e : Scope) (es : List Scope) where
  top_layered : Layered templates a above (e ∷ es) → Layered templates a (charged e.floor) (e ∷ es)
  top_layered l = (record { height = l.0.height; cells_low = omega arith; bytes_low = omega arith; fits = l.0.fits }, l.1)

  pub freed_layered : Freed a b (charged e.floor) → Layered templates a above (e ∷ es) → Layered templates b (used b) (e ∷ es)
  freed_layered f l =
      layered_below templates b (charged e.floor) (used b) (e ∷ es) (omega (arith, cells_paid f.at_height)) (omega (arith, bytes_paid f.at_height))
      (layered_kept templates a b (charged e.floor) (freed_keeps a b (charged e.floor) f) (charged e.floor) (e ∷ es) (omega arith) (omega arith) (top_layered l))

  pub freed_entries : (from : ValueSource) → Freed a b (charged e.floor) → Layered templates a above (e ∷ es) → entries_in templates b from (e ∷ es) ≡ entries_in templates a from (e ∷ es)
  freed_entries from f l = entries_kept templates a b (charged e.floor) (freed_keeps a b (charged e.floor) f) from (charged e.floor) (e ∷ es) (omega arith) (top_layered l)
