-- A state whose tally was put to the floor of the top scope.
use Rattle.std.proofs.Common.{◌≡◌, List, [], ◌∷◌, refl, sym, ap, ◌∙◌, subst}
use Rattle.hosts.specs.Answers.{AllKnown}
use Rattle.hosts.specs.declared.answer.Argument.{Argument}
use Rattle.stack.specs.Entries.{entries}
use Rattle.store.specs.Stores.{Freed, charged, used}
use Rattle.store.specs.declared.memory.Store.{Store}
use Rattle.scopes.specs.Entries.{entries_in}
use Rattle.scopes.specs.Layers.{Layered}
use Rattle.scopes.specs.declared.state.Scope.{Scope}
use Rattle.render.specs.States.{Rests, Sound, floor_of, held}
use Rattle.render.specs.declared.state.RenderState.{RenderState}
use Rattle.scopes.proofs.Keeping.{freed_layered, freed_entries}

module _ {K : Type 0} (s : RenderState K) (t : Store) (top : Scope) (es : List Scope) (are : entries s.scopes ≡ top ∷ es)
    (f : Freed s.store t (charged top.floor)) where
  abbrev on_floor : RenderState K
  on_floor =
      record { templates = s.templates; here = s.here; below = s.below; scopes = s.scopes; values = s.values; store = t; buffer = s.buffer; sink = s.sink }

  layered_at : Sound s → Layered (held s) s.store (used s.store) (top ∷ es)
  layered_at sound = subst (λ (xs : List Scope). Layered (held s) s.store (used s.store) xs) are sound.layered

  pub sound_on_floor : Sound s → entries s.values ≡ [] → Sound on_floor
  sound_on_floor sound clear = record {
    here_held = sound.here_held;
    below_held = sound.below_held;
    layered = subst (λ (xs : List Scope). Layered (held s) t (used t) xs) (sym are)
        (freed_layered (held s) s.store t (used s.store) top es f (layered_at sound));
    known = subst (λ (vs : List Argument). AllKnown t vs) (sym clear) tt;
    values_room = sound.values_room;
    scopes_room = sound.scopes_room;
    open_room = sound.open_room;
    text_room = sound.text_room;
  }

  pub rests_on_floor : Sound s → Rests s on_floor
  rests_on_floor sound = record {
    here = refl;
    below = refl;
    scopes = refl;
    values = refl;
    buffer = refl;
    sink = refl;
    floor = f.at_height ∙ sym (ap floor_of are);
    keeps = λ g.
        ap (entries_in (held s) t g.from) are
        ∙ freed_entries (held s) s.store t (used s.store) top es g.from f (layered_at sound)
        ∙ sym (ap (entries_in (held s) s.store g.from) are);
  }
