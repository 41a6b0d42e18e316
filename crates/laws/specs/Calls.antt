-- What calls of an engine leave for those behind them.
use Rattle.std.specs.Prelude.{◌≡◌, ℕ, Bool, true, ◌||◌, List, ◌∷◌, ◌++◌, ◌==◌}
use Rattle.std.proofs.Math.Option.{none}
use Rattle.meaning.specs.Or.{gives}
use Rattle.meaning.specs.Fault.{number, Fault}
use Rattle.meaning.specs.Hosts.{Hosts, Sink, Taken}
use Rattle.meaning.specs.Reading.{faulted, find}
use Rattle.model.specs.Model.{Model, Call, add_template, remove_template, load, render, render_from, added, removed, loaded_with, call, run}
use Rattle.model.specs.Laws.{Sound}
use Rattle.laws.specs.Text.{sink_over}

-- REFUSALS

-- Whether a call that answers with that fault was refused. A rendering is refused by 8 and 9; by any other fault it ends, and what it read is offered.
abbrev pub refused_by : Call → Fault → Bool
refused_by (add_template name source tree) f = true
refused_by (remove_template name) f = true
refused_by (load packed) f = true
refused_by (render name depth) f = number f.cause == 8 || number f.cause == 9
refused_by (render_from name depth from) f = number f.cause == 8 || number f.cause == 9

module _ (sink : Sink) (hosts : Hosts) where
  -- A refused call between others: what is answered before it and behind it is what would be answered without it, and so is what is left.
  pub record LeftOut (m : Model) (s : sink.State) (before : List Call) (c : Call) (f : Fault) (behind : List Call) : Type 0 where
    pub with_it :
        let (answers, there, so_far) = run sink hosts m s before in
        let (others, last, left) = run sink hosts there so_far behind in
        run sink hosts m s (before ++ (c ∷ behind)) ≡ (answers ++ (faulted f ∷ others), last, left)
    pub without_it :
        let (answers, there, so_far) = run sink hosts m s before in
        let (others, last, left) = run sink hosts there so_far behind in
        run sink hosts m s (before ++ behind) ≡ (answers ++ others, last, left)

abbrev pub RefusedCallsMayBeLeftOut : Type 0 → Type 0
RefusedCallsMayBeLeftOut State =
    (highest : ℕ) (take : State → List ℕ → Taken State) (hosts : Hosts) (m : Model) (s : State) (before : List Call) (c : Call) (f : Fault)
    (behind : List Call) →
    let (answers, there, so_far) = run (sink_over State highest take) hosts m s before in
    (call (sink_over State highest take) hosts there so_far c).0 ≡ faulted f → refused_by c f ≡ true →
    LeftOut (sink_over State highest take) hosts m s before c f behind

-- TEMPLATES, AND THE LOADED VALUE

-- a new name that is added and then removed leaves the engine as it was
abbrev pub RemovingTakesBack : Type 0
RemovingTakesBack =
    (m n : Model) (name source tree : List ℕ) → find m.templates name ≡ none → added m name source tree ≡ gives n → removed n name ≡ gives m

-- a second loading does what it would have done without the first, also where it is refused
abbrev pub LoadingReplaces : Type 0
LoadingReplaces = (m n : Model) (first second : List ℕ) → loaded_with m first ≡ gives n → loaded_with n second ≡ loaded_with m second

-- whatever is called, two engines answer the same, and leave a sink the same
abbrev pub AnswerTheSame : Type 0 → Model → Model → Type 0
AnswerTheSame State m n =
    (highest : ℕ) (take : State → List ℕ → Taken State) (hosts : Hosts) (s : State) (calls : List Call) →
    let (answers, there, left) = run (sink_over State highest take) hosts m s calls in
    let (answers', there', left') = run (sink_over State highest take) hosts n s calls in
    (answers ≡ answers') × (left ≡ left')

-- two names that differ can be added in either order, and whatever is called after them is answered the same
abbrev pub AddingHasNoOrder : Type 0 → Type 0
AddingHasNoOrder State =
    (m n both : Model) (name source tree other other_source other_tree : List ℕ) →
    Sound m → ¬ (name ≡ other) →
    added m name source tree ≡ gives n → added n other other_source other_tree ≡ gives both →
    (n' : Model) × (both' : Model)
    × (added m other other_source other_tree ≡ gives n') × (added n' name source tree ≡ gives both')
    × AnswerTheSame State both both'
