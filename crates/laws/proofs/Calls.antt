-- What calls of an engine leave for those behind them.
use Rattle.std.proofs.Common.{◌≡◌, ◌⊎◌, ℕ, ◌-◌, ◌≤◌, Bool, true, false, cond, not, ◌&&◌, ◌||◌, eqb, leb, ltb, List, [], ◌∷◌, ◌++◌, length, sym, refl, ap, ◌∙◌, subst, inl, inr, arith, leb-true, eqb-true}
use mathlib.Core.Option.{Option, none, some}
use Rattle.std.specs.Str.{bytes_eq as same_text}
use Rattle.meaning.specs.Or.{Or, fails, gives, refuse_if, ◌>>◌}
use Rattle.meaning.specs.Value.{Text}
use Rattle.meaning.specs.declared.fault.Cause.{Cause}
use Rattle.meaning.specs.declared.fault.Cause.TheVariants.{BadName, UnknownName, TooManyOpen, SinkStopped}
use Rattle.meaning.specs.Tree.{Scope}
use Rattle.meaning.specs.Fault.{number, Fault, fault}
use Rattle.meaning.specs.Charge.{cost, within}
use Rattle.meaning.specs.Names.{well_named}
use Rattle.meaning.specs.Hosts.{Hosts, Sink, Taken, took, stopped}
use Rattle.meaning.specs.Scopes.{Visible, parts_of, asking}
use Rattle.meaning.specs.Reading.{Piece, Event, offers, End, finished, faulted, Reading, Template, Templates, find}
use Rattle.meaning.specs.Offering.{stopped_at, offer_all}
use Rattle.meaning.proofs.Answers.{same_answer, allowed, gave}
use Rattle.packing.specs.Unpacking.{unpack, unpack_value}
use Rattle.program.specs.Program.{count}
use Rattle.model.specs.Model.{Model, put, without, with_templates, Call, add_template, remove_template, load, render, render_from, added, removed, loaded_with, rendering, changed, rendered as after_rendering, call, run}
use Rattle.model.proofs.Names.{adding_replaces}
use Rattle.laws.specs.Places.{Place, start_of}
use Rattle.laws.specs.Faults.{AtASpan}
use Rattle.laws.specs.Text.{sink_over}
use Rattle.laws.specs.Calls.{refused_by, LeftOut, RefusedCallsMayBeLeftOut, RemovingTakesBack, LoadingReplaces}
use Rattle.laws.proofs.Scope.{is_same, IsFalse}
use Rattle.laws.proofs.Truth.{IsNone}
use Rattle.laws.proofs.Boundary.{templates_are_read}
use Rattle.laws.proofs.Faults.{faults_say_where}
use Rattle.laws.proofs.Renderings.{setting_of, gave_reading}

-- RENDERINGS ARE REFUSED BY 8 AND 9

abbrev by_8_or_9 : ℕ → Bool
by_8_or_9 n = eqb n 8 || eqb n 9

-- no cause from 10 on is one of them
late : (n : ℕ) → 10 ≤ n → by_8_or_9 n ≡ false
late n h = by (eqb n 8) (eqb n 9) refl refl
  where
    by : (x y : Bool) → eqb n 8 ≡ x → eqb n 9 ≡ y → (x || y) ≡ false
    by true y e f = absurd (let is : n ≡ 8 = eqb-true n 8 e in omega arith)
    by false true e f = absurd (let is : n ≡ 9 = eqb-true n 9 f in omega arith)
    by false false e f = refl

at_a_span_is_late : (n : ℕ) (x y z : Bool) → (leb 10 n && x && y && z) ≡ true → 10 ≤ n
at_a_span_is_late n x y z e = by (leb 10 n) refl e
  where
    by : (low : Bool) → leb 10 n ≡ low → (low && x && y && z) ≡ true → 10 ≤ n
    by true e h = leb-true 10 n e
    by false e h = absurd (subst IsFalse h tt)

module _ (hosts : Hosts) (m : Model) (name : Text) (depth : ℕ) (bottom : Visible) where
  reading_is_late : (reading : Reading) (f : Fault) → rendering hosts m name depth bottom ≡ gives reading → reading.end ≡ faulted f →
      by_8_or_9 (number f.cause) ≡ false
  reading_is_late reading f e ends =
      let (template, found, low, is) = gave_reading hosts m name depth bottom (find m.templates name) (ltb 32 depth) reading e in
      by (faults_say_where (start_of (setting_of hosts m) (depth - 1) name template (bottom ∷ []) (cost m.loaded)) template.tree f
      (ap (λ (r : Reading). r.end) (sym (templates_are_read (setting_of hosts m) (depth - 1) name template (bottom ∷ []) (cost m.loaded)) ∙ is) ∙ ends))
    where
      by : {at : Place} → (f ≡ fault TooManyOpen 0) ⊎ AtASpan at f → by_8_or_9 (number f.cause) ≡ false
      by (inl e) = ap (λ (g : Fault). by_8_or_9 (number g.cause)) e
      by (inr there) =
          late (number f.cause) (at_a_span_is_late (number f.cause) (leb (number f.cause) 26) (not (eqb (number f.cause) 23)) (not (eqb (number f.cause) 24)) there.cause)

abbrev Finished : End → Type 0
Finished finished = Unit {0}
Finished (faulted f) = ⊥

module _ (sink : Sink) where
  -- an offering, by what the sink does at the first piece
  abbrev offered_after : Piece → List Event → End → sink.State → Taken sink.State → End × sink.State
  offered_after piece events end s t = elim t [ took n ↦ offer_all sink events end n | stopped level ↦ (faulted (stopped_at piece level), s) ]

  -- an offering ends as the reading does, or where the sink stops
  ends_or_stops : (events : List Event) (end : End) (s : sink.State) (f : Fault) →
      (offer_all sink events end s).0 ≡ faulted f → (end ≡ faulted f) ⊎ (f.cause ≡ SinkStopped)
  ends_or_stops [] end s f e = inl e
  ends_or_stops (offers piece ∷ events) end s f e = by (sink.take s piece.bytes) e (λ n. ends_or_stops events end n f)
    where
      by : (t : Taken sink.State) →
          (offered_after piece events end s t).0 ≡ faulted f →
          ((n : sink.State) → (offer_all sink events end n).0 ≡ faulted f → (end ≡ faulted f) ⊎ (f.cause ≡ SinkStopped)) →
          (end ≡ faulted f) ⊎ (f.cause ≡ SinkStopped)
      by (took n) e deeper = deeper n e
      by (stopped level) e deeper = inr (sym (ap cause_of e))
        where
          cause_of : End → Cause
          cause_of finished = SinkStopped
          cause_of (faulted g) = g.cause

  module _ (hosts : Hosts) where
    change_leaves : (m : Model) (s : sink.State) (f : Fault) (r : Or Fault Model) → (changed sink m s r).0 ≡ faulted f →
        changed sink m s r ≡ (faulted f, m, s)
    change_leaves m s f (fails g) e = ap (λ (x : End). (x, m, s)) e
    change_leaves m s f (gives n) e = absurd (subst Finished e tt)

    rendering_leaves : (m : Model) (s : sink.State) (f : Fault) (r : Or Fault Reading) → (after_rendering sink m s r).0 ≡ faulted f →
        by_8_or_9 (number f.cause) ≡ true →
        ((reading : Reading) → r ≡ gives reading → reading.end ≡ faulted f → by_8_or_9 (number f.cause) ≡ false) →
        after_rendering sink m s r ≡ (faulted f, m, s)
    rendering_leaves m s f (fails g) e early late_one = ap (λ (x : End). (x, m, s)) e
    rendering_leaves m s f (gives reading) e early late_one = absurd (by (ends_or_stops reading.events reading.end s f e))
      where
        by : (reading.end ≡ faulted f) ⊎ (f.cause ≡ SinkStopped) → ⊥
        by (inl ends) = subst IsFalse (sym (late_one reading refl ends) ∙ early) tt
        by (inr stops) = subst IsFalse (sym (ap (λ (c : Cause). by_8_or_9 (number c)) stops) ∙ early) tt

    -- a refused call leaves all as it is
    call_leaves : (m : Model) (s : sink.State) (c : Call) (f : Fault) → (call sink hosts m s c).0 ≡ faulted f → refused_by c f ≡ true →
        call sink hosts m s c ≡ (faulted f, m, s)
    call_leaves m s (add_template name source tree) f e is = change_leaves m s f (added m name source tree) e
    call_leaves m s (remove_template name) f e is = change_leaves m s f (removed m name) e
    call_leaves m s (load packed) f e is = change_leaves m s f (loaded_with m packed) e
    call_leaves m s (render name depth) f e is =
        rendering_leaves m s f (rendering hosts m name depth (parts_of m.loaded)) e is
        (λ reading. reading_is_late hosts m name depth (parts_of m.loaded) reading f)
    call_leaves m s (render_from name depth from) f e is =
        rendering_leaves m s f (rendering hosts m name depth (asking from)) e is (λ reading. reading_is_late hosts m name depth (asking from) reading f)

    abbrev Ran : Type 0
    Ran = List End × Model × sink.State

    -- what runs behind some answers
    abbrev behind_answers : List End → Ran → Ran
    behind_answers first ran = (first ++ ran.0, ran.1, ran.2)

    run_in_two : (m : Model) (s : sink.State) (before behind : List Call) →
        run sink hosts m s (before ++ behind)
        ≡ behind_answers (run sink hosts m s before).0 (run sink hosts (run sink hosts m s before).1 (run sink hosts m s before).2 behind)
    run_in_two m s [] behind = refl
    run_in_two m s (c ∷ before) behind =
        ap (λ (ran : Ran). ((call sink hosts m s c).0 ∷ ran.0, ran.1, ran.2))
        (run_in_two (call sink hosts m s c).1 (call sink hosts m s c).2 before behind)

    left_out : (m : Model) (s : sink.State) (before : List Call) (c : Call) (f : Fault) (behind : List Call) →
        (call sink hosts (run sink hosts m s before).1 (run sink hosts m s before).2 c).0 ≡ faulted f → refused_by c f ≡ true →
        LeftOut sink hosts m s before c f behind
    left_out m s before c f behind e is =
        let so_far : Ran = run sink hosts m s before in
        record {
          with_it =
              run_in_two m s before (c ∷ behind)
              ∙ ap (λ (after : End × Model × sink.State).
              behind_answers so_far.0 (after.0 ∷ (run sink hosts after.1 after.2 behind).0, (run sink hosts after.1 after.2 behind).1, (run sink hosts after.1 after.2 behind).2))
              (call_leaves so_far.1 so_far.2 c f e is);
          without_it = run_in_two m s before behind;
        }

pub refused_calls_may_be_left_out : (State : Type 0) → RefusedCallsMayBeLeftOut State
refused_calls_may_be_left_out State highest take hosts m s before c f behind e is = left_out (sink_over State highest take) hosts m s before c f behind e is

-- TAKING BACK

-- a new name is put last, and taken out from there
put_and_out : (name : Text) (template : Template) (templates : Templates) → find templates name ≡ none → without name (put name template templates) ≡ templates
put_and_out name template [] e = ap (λ (x : Bool). cond x [] ((name, template) ∷ [])) (is_same name name refl)
put_and_out name template ((other, old) ∷ rest) e = by (same_text name other) refl e (put_and_out name template rest)
  where
    by : (x : Bool) → same_text name other ≡ x → cond x (some old) (find rest name) ≡ none →
        (find rest name ≡ none → without name (put name template rest) ≡ rest) →
        without name (cond x ((name, template) ∷ rest) ((other, old) ∷ put name template rest)) ≡ (other, old) ∷ rest
    by true same e deeper = absurd (subst IsNone (sym e) tt)
    by false differ e deeper =
        ap (λ (x : Bool). cond x (put name template rest) ((other, old) ∷ without name (put name template rest))) differ
        ∙ ap (λ (ts : Templates). (other, old) ∷ ts) (deeper e)

-- what an adding gives
pub record Adds (m n : Model) (name source tree : List ℕ) : Type 0 where
  pub scope : Scope
  pub unpacked : unpack source tree ≡ gives scope
  pub few : ltb 1024 (count scope) ≡ false
  pub named : not (well_named name) ≡ false
  pub room : ltb 16 (length (put name (record { source = source; tree = scope }) m.templates)) ≡ false
  pub is : with_templates m (put name (record { source = source; tree = scope }) m.templates) ≡ n

pub adds : (m n : Model) (name source tree : List ℕ) → added m name source tree ≡ gives n → Adds m n name source tree
adds m n name source tree e =
    gave (unpack source tree) _ e λ scope unpacked e₁.
    let few = allowed (ltb 1024 (count scope)) _ _ e₁ in
    let named = allowed (not (well_named name)) _ _ few.1 in
    let room = allowed (ltb 16 (length (put name (record { source = source; tree = scope }) m.templates))) _ _ named.1 in
    record {
      scope = scope;
      unpacked = unpacked;
      few = few.0;
      named = named.0;
      room = room.0;
      is = same_answer (λ (x : Model). with_templates m (put name (record { source = source; tree = scope }) m.templates) ≡ x) room.1 refl;
    }

pub removing_takes_back : RemovingTakesBack
removing_takes_back m n name source tree new e =
    let how : Adds m n name source tree = adds m n name source tree e in
    let template : Template = record { source = source; tree = how.scope } in
    ap (λ (x : Model). removed x name) (sym how.is)
    ∙ by (put name template m.templates) (not (well_named name)) how.named (find (put name template m.templates) name)
    (adding_replaces name name template m.templates ∙ ap (λ (x : Bool). cond x (some template) (find m.templates name)) (is_same name name refl))
    ∙ ap (λ (ts : Templates). gives (with_templates m ts)) (put_and_out name template m.templates new)
  where
    removed_as : Templates → Bool → Option Template → Or Fault Model
    removed_as templates x o =
        refuse_if x (fault BadName 0) >> ((elim o [ some t ↦ gives t | none ↦ fails (fault UnknownName 0) ]) >> gives (with_templates m (without name templates)))

    by : (templates : Templates) {template : Template} (x : Bool) → x ≡ false → (o : Option Template) → o ≡ some template →
        removed_as templates x o ≡ gives (with_templates m (without name templates))
    by ts true e o f = absurd (subst IsFalse (sym e) tt)
    by ts false e none f = absurd (subst IsNone f tt)
    by ts false e (some t) f = refl

-- LOADING

pub loading_replaces : LoadingReplaces
loading_replaces m n first second e =
    gave (unpack_value first) _ e λ v unpacked e₁.
    let fits = allowed (not (within m.supply (cost v))) _ _ e₁ in
    same_answer (λ (x : Model). loaded_with x second ≡ loaded_with m second) fits.1 refl
