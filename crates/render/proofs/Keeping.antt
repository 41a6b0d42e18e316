-- What each change keeps of the memory beneath.
use Rattle.std.proofs.Common.{◌≡◌, ◌≤◌, List, ◌∷◌, refl, sym, ◌∙◌, subst}
use Rattle.meaning.specs.Charge.{Charge}
use Rattle.stack.specs.Entries.{entries}
use Rattle.store.specs.Stores.{Freed, Over, charged, used}
use Rattle.store.specs.declared.memory.Store.{Store}
use Rattle.scopes.specs.declared.state.Scope.{Scope}
use Rattle.render.specs.Keeping.{Agrees, Beneath, Keeps, Lowest}
use Rattle.render.specs.declared.state.RenderState.{RenderState}
use Rattle.render.proofs.Heights.{agrees_lower, freed_agrees, over_agrees}

agrees_itself : (at : Charge) (s : Store) → at.cells ≤ (used s).cells → at.bytes ≤ (used s).bytes → Agrees at s s
agrees_itself at s c b = record { cells_low = c; bytes_low = b; cells_kept = refl; bytes_kept = refl; keeps = λ r l. refl }

pub agrees_trans : (at : Charge) (a b c : Store) → Agrees at a b → Agrees at b c → Agrees at a c
agrees_trans at a b c p q = record {
  cells_low = q.cells_low;
  bytes_low = q.bytes_low;
  cells_kept = q.cells_kept ∙ p.cells_kept;
  bytes_kept = q.bytes_kept ∙ p.bytes_kept;
  keeps = λ r l. q.keeps r l ∙ p.keeps r l;
}

module _ {K : Type 0} where
  pub keeps_trans : (a b c : RenderState K) → Keeps a b → Keeps b c → Keeps a c
  keeps_trans a b c p q = record {
    under = λ at here.
        let one = p.under at here in
        let two = q.under at one.1 in
        (agrees_trans at a.store b.store c.store one.0 two.0, two.1);
  }

  module _ (s t : RenderState K) where
    beneath_same : (at : Charge) → t.store ≡ s.store → Lowest at (entries t.scopes) → Beneath at s → Agrees at s.store t.store × Beneath at t
    beneath_same at same low under = (
      subst (Agrees at s.store) (sym same) (agrees_itself at s.store under.cells under.bytes),
      record {
        cells = subst (λ (m : Store). at.cells ≤ (used m).cells) (sym same) under.cells;
        bytes = subst (λ (m : Store). at.bytes ≤ (used m).bytes) (sym same) under.bytes;
        scopes = low;
      },
    )

    -- the store and the scopes are the same
    pub keeps_same : t.store ≡ s.store → entries t.scopes ≡ entries s.scopes → Keeps s t
    keeps_same same scopes = record { under = λ at under. beneath_same at same (subst (Lowest at) (sym scopes) under.scopes) under }

    -- a scope was put on top, at the height of the tally
    pub keeps_push : (e : Scope) → t.store ≡ s.store → entries t.scopes ≡ e ∷ entries s.scopes → charged e.floor ≡ used s.store → Keeps s t
    keeps_push e same scopes here = record {
      under = λ at under.
          beneath_same at same
          (subst (Lowest at) (sym scopes)
          (subst (λ (h : Charge). at.cells ≤ h.cells) (sym here) under.cells, subst (λ (h : Charge). at.bytes ≤ h.bytes) (sym here) under.bytes, under.scopes))
          under;
    }

    -- the top scope was taken off
    pub keeps_pop : (e : Scope) → t.store ≡ s.store → entries s.scopes ≡ e ∷ entries t.scopes → Keeps s t
    keeps_pop e same scopes = record { under = λ at under. beneath_same at same (subst (Lowest at) scopes under.scopes).2 under }

    beneath_agrees : (at high : Charge) → at.cells ≤ high.cells → at.bytes ≤ high.bytes → Agrees high s.store t.store
        → entries t.scopes ≡ entries s.scopes → Beneath at s → Agrees at s.store t.store × Beneath at t
    beneath_agrees at high c b a scopes under =
        let low = agrees_lower high at s.store t.store c b a in
        (low, record { cells = low.cells_low; bytes = low.bytes_low; scopes = subst (Lowest at) (sym scopes) under.scopes })

    -- more was made
    pub keeps_over : Over s.store t.store → entries t.scopes ≡ entries s.scopes → Keeps s t
    keeps_over o scopes = record {
      under = λ at under. beneath_agrees at (used s.store) under.cells under.bytes (over_agrees s.store t.store o) scopes under;
    }

    -- what lay above the floor of the top scope was freed
    pub keeps_freed : (e : Scope) (es : List Scope) → entries s.scopes ≡ e ∷ es → Freed s.store t.store (charged e.floor)
        → entries t.scopes ≡ entries s.scopes → Keeps s t
    keeps_freed e es are f scopes = record {
      under = λ at under.
          let low = subst (Lowest at) are under.scopes in
          beneath_agrees at (charged e.floor) low.0 low.1 (freed_agrees s.store t.store (charged e.floor) f) scopes under;
    }
