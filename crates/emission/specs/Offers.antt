-- What becomes of a text that is offered to a sink.
use Rattle.std.specs.Prelude.{◌≡◌, ℕ, List, None, Ok, Err, Result}
use Rattle.std.proofs.Math.Option.{Option}
use Rattle.meaning.specs.Fault.{in_template}
use Rattle.meaning.specs.FaultRecords.{fault_of}
use Rattle.meaning.specs.Hosts.{Taken, took, stopped}
use Rattle.meaning.specs.Offering.{stopped_at}
use Rattle.meaning.specs.Value.{Text}
use Rattle.meaning.specs.declared.fault.Fault as code
use Rattle.meaning.specs.declared.tree.Span.{Span}

module _ {M : Type 0} (before after : M) (bytes : List ℕ) (span : Option Span) where
  -- the sink is as it was, and the fault is that of the stop, once it has its template
  pub record Stops (level : ℕ) (g : code.Fault) : Type 0 where
    pub left : after ≡ before
    pub unnamed : g.template ≡ None
    pub is : (template : Text) → in_template template (fault_of g) ≡ stopped_at (record { bytes = bytes; template = template; span = span }) level

  abbrev pub Offers : Taken M → Result (Unit {0}) code.Fault → Type 0
  Offers (took m) (Ok done) = after ≡ m
  Offers (took m) (Err g) = ⊥
  Offers (stopped level) (Ok done) = ⊥
  Offers (stopped level) (Err g) = Stops level g
