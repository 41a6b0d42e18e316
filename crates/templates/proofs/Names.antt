-- What a name finds among the templates that entries stand for, and what is left where it is put or removed.
use Rattle.std.proofs.Common.{◌≡◌, ℕ, suc, ◌<◌, false, List, [], ◌∷◌, ◌++◌, length, get_or, take, drop, sym, refl, ap, ◌∙◌, ap₂, inl, inr, append-nil, arith}
use mathlib.Core.Option.{none, some}
use Rattle.std.proofs.lemmas.Grind.{common_steps}
use Rattle.std.proofs.lemmas.List.{take-append-drop, take_all, drop_all}
use Rattle.std.proofs.lemmas.Bool.{cond-true}
use Rattle.std.specs.Str.{bytes_eq as same_text}
use Rattle.meaning.specs.Names.{name_of}
use Rattle.meaning.specs.Reading.{Template, Templates, find}
use Rattle.meaning.specs.Value.{Text}
use Rattle.model.specs.Model.{put, without}
use Rattle.templates.specs.Entries.{held, named, template_of, First, Goes}
use Rattle.templates.specs.declared.entry.Entry.{Entry}

module _ (bytes : List ℕ) where
  pub held_append : (xs ys : List Entry) → held bytes (xs ++ ys) ≡ held bytes xs ++ held bytes ys
  held_append [] ys = refl
  held_append (a ∷ xs) ys = let rest = held_append xs ys in cc

  pub held_length : (es : List Entry) → length (held bytes es) ≡ length es
  held_length [] = refl
  held_length (e ∷ es) = ap suc (held_length es)

  pub held_at : (es : List Entry) (i : ℕ) (e : Entry) (d : Text × Template) → i < length es → e ≡ get_or es i e → get_or (held bytes es) i d ≡ (name_of e.name, template_of bytes e)
  held_at [] i e d h is = absurd (omega arith)
  held_at (x ∷ es) ℕ.zero e d h is = cc
  held_at (x ∷ es) (suc i) e d h is = held_at es i e d (omega arith) is

  module _ (name : Text) where
    -- entries that have other names are passed
    abbrev one : Entry → Text × Template
    one e = (name_of e.name, template_of bytes e)

    find_past : (es : List Entry) (rest : Templates) → named name es ≡ false → find (held bytes es ++ rest) name ≡ find rest name
    find_past [] rest e = refl
    find_past (x ∷ es) rest e = let past = find_past es rest in grind (arith, common_steps)

    put_past : (t : Template) (es : List Entry) (rest : Templates) → named name es ≡ false → put name t (held bytes es ++ rest) ≡ held bytes es ++ put name t rest
    put_past t [] rest e = refl
    put_past t (x ∷ es) rest e = let past = put_past t es rest in grind (arith, common_steps)

    without_past : (es : List Entry) (rest : Templates) → named name es ≡ false → without name (held bytes es ++ rest) ≡ held bytes es ++ without name rest
    without_past [] rest e = refl
    without_past (x ∷ es) rest e = let past = without_past es rest in grind (arith, common_steps)

    pub find_none : (es : List Entry) → named name es ≡ false → find (held bytes es) name ≡ none
    find_none es e = ap (λ (ts : Templates). find ts name) (sym (append-nil (held bytes es))) ∙ find_past es [] e

    -- the first that has the name
    module _ (es : List Entry) (at : ℕ) (f : First name es at) where
      parted : held bytes es ≡ held bytes (take at es) ++ (one f.entry ∷ held bytes (drop (suc at) es))
      parted =
          ap (held bytes) (sym (take-append-drop at es) ∙ ap (λ (x : List Entry). take at es ++ x) f.is)
          ∙ held_append (take at es) (f.entry ∷ drop (suc at) es)

      pub find_first : find (held bytes es) name ≡ some (template_of bytes f.entry)
      find_first =
          ap (λ (ts : Templates). find ts name) parted ∙ find_past (take at es) _ f.before
          ∙ cond-true (same_text name (name_of f.entry.name)) _ _ f.has

      pub put_first : (t : Template) → put name t (held bytes es) ≡ held bytes (take at es) ++ ((name, t) ∷ held bytes (drop (suc at) es))
      put_first t =
          ap (put name t) parted ∙ put_past t (take at es) _ f.before
          ∙ ap (λ (ts : Templates). held bytes (take at es) ++ ts) (cond-true (same_text name (name_of f.entry.name)) _ _ f.has)

      pub without_first : without name (held bytes es) ≡ held bytes (take at es ++ drop (suc at) es)
      without_first =
          ap (without name) parted ∙ without_past (take at es) _ f.before
          ∙ ap (λ (ts : Templates). held bytes (take at es) ++ ts) (cond-true (same_text name (name_of f.entry.name)) _ _ f.has)
          ∙ sym (held_append (take at es) (drop (suc at) es))

    pub put_goes : (es : List Entry) (at : ℕ) (t : Template) → Goes name es at → put name t (held bytes es) ≡ held bytes (take at es) ++ ((name, t) ∷ held bytes (drop (suc at) es))
    put_goes es at t (inl f) = put_first es at f t
    put_goes es at t (inr (last, none_of)) =
        let all : take at es ≡ es = take_all at es (omega arith) in
        let nothing : drop (suc at) es ≡ [] = drop_all (suc at) es (omega arith) in
        ap (put name t) (sym (append-nil (held bytes es))) ∙ put_past t es [] none_of
        ∙ ap₂ (λ (xs ys : List Entry). held bytes xs ++ ((name, t) ∷ held bytes ys)) (sym all) (sym nothing)
