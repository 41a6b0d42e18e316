-- What is pushed, and a fault in its place, as the step of the machine.
use Rattle.std.proofs.Common.{◌≡◌, ℕ, ◌<◌, Bool, true, false, cond, ltb, List, length, Ok, Err, refl, lt-ltb, ltb-true, arith}
use Rattle.std.proofs.lemmas.List.{length-map}
use Rattle.meaning.specs.Charge.{Charge}
use Rattle.meaning.specs.Fault.{Fault, in_template}
use Rattle.meaning.specs.FaultRecords.{fault_of}
use Rattle.meaning.specs.Hosts.{Taken}
use Rattle.meaning.specs.Or.{Or, fails, gives}
use Rattle.meaning.specs.Reading.{Event}
use Rattle.meaning.specs.Value.{Value}
use Rattle.meaning.specs.declared.fault.Fault as code
use Rattle.meaning.specs.declared.tree.Span.{Span}
use Rattle.machine.specs.Machine.{Entry, Frame, Next, Open, World, faulted, most_values, push_made, standing, stuck}
use Rattle.store.specs.Stores.{used}
use Rattle.store.specs.declared.memory.Store.{Store}
use Rattle.hosts.specs.Answers.{argument_in, arguments_in}
use Rattle.hosts.specs.declared.answer.Argument.{Argument}
use Rattle.expressions.specs.Pushing.{Pushes, RoomFor}

the_way : {M : Type 0} (b : Bool) (x : Next M) → ¬ (cond b x stuck ≡ stuck) → b ≡ true
the_way true x goes = refl
the_way false x goes = absurd (goes refl)

module _ {M : Type 0} (observe : M → Event → Taken M) (world : World) (frame : Frame) (next : ℕ) (below : List Open) (scopes : List Entry) (m : M)
    (before after : Store) (values values' : List Argument) (span : Span) where
  pub pushed : (answer : Or Fault (Value × Charge)) → RoomFor answer values → Pushes before after values values' span answer (Ok tt)
      → push_made observe world frame next below scopes (arguments_in before values) m span answer
      ≡ standing frame next below scopes (arguments_in after values') (used after) m
  pushed (gives (v, tally)) few h =
      let room : ltb (length (arguments_in before values)) most_values ≡ true = lt-ltb _ _ (rw length-map few) in
      rw (room, h.means, h.paid) refl
  pushed (fails f) few h = absurd h

  -- where that is not stuck, there is room
  pub room_for : (answer : Or Fault (Value × Charge))
      → ¬ (push_made observe world frame next below scopes (arguments_in before values) m span answer ≡ stuck) → RoomFor answer values
  room_for (gives (v, tally)) goes =
      let l : length (arguments_in before values) < most_values = ltb-true _ _ (the_way _ _ goes) in omega (arith, l, length-map values (argument_in before))
  room_for (fails f) goes = tt

  pub refused : (answer : Or Fault (Value × Charge)) (g : code.Fault) → Pushes before after values values' span answer (Err g)
      → push_made observe world frame next below scopes (arguments_in before values) m span answer
      ≡ faulted (in_template frame.name (fault_of g)) scopes m
  refused (gives (v, tally)) g h = absurd h
  refused (fails f) g h = rw (← h.is) refl
