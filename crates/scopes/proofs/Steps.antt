-- What the search and the loops come to in the machine.
use Rattle.std.proofs.Common.{◌≡◌, ℕ, List, refl}
use Rattle.machine.specs.Machine.{Kind, Entry, Held, Frame, Open, World, Next, had, visible, next_turn, execute, push_made}
use Rattle.meaning.specs.Charge.{Charge, charge}
use Rattle.meaning.specs.Fault.{Fault}
use Rattle.meaning.specs.Hosts.{Taken}
use Rattle.meaning.specs.Or.{Or, fails, gives}
use Rattle.meaning.specs.Reading.{Event}
use Rattle.meaning.specs.Scopes.{Had, Turn, look_up}
use Rattle.meaning.specs.Spans.{var_span}
use Rattle.meaning.specs.Tree.{Var}
use Rattle.program.specs.Program.{ExprStartVar}
use Rattle.scopes.specs.Iterating.{AtEnd, GoesOn}
use Rattle.scopes.specs.Searching.{paid}

module _ {M : Type 0} (observe : M → Event → Taken M) (world : World) (frame : Frame) (next : ℕ) (below : List Open) (scopes : List Entry) (values : List Held) (m : M) where
  pub variable_step : (v : Var) (tally : Charge) → execute observe world frame next below (ExprStartVar v) scopes values tally m
      ≡ push_made observe world frame next below scopes values m (var_span v) (paid world.supply (var_span v) (look_up frame.compiled.source (visible scopes) v) tally)
  variable_step v tally = by (look_up frame.compiled.source (visible scopes) v)
    where
      by : (found : Or Fault Had) → had frame.name scopes m found (λ h. push_made observe world frame next below scopes values m (var_span v) (charge world.supply (var_span v) h.1 h.0 tally))
          ≡ push_made observe world frame next below scopes values m (var_span v) (paid world.supply (var_span v) found tally)
      by (fails f) = refl
      by (gives h) = refl

module _ {M : Type 0} (end : Next M) (next : Turn → List Turn → Next M) where
  pub ends_step : (k : Kind) → AtEnd k → next_turn k end next ≡ end
  ends_step k a = rw a.was

  pub goes_on_step : (k after : Kind) (g : GoesOn k after) → next_turn k end next ≡ next g.turn g.left
  goes_on_step k after g = rw g.was
