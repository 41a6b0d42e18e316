-- The variable `loop`, in code.
use Rattle.std.specs.Prelude.{◌≡◌, ℕ, suc, true, false, List, [], ◌∷◌, Some, None, Ok, Err, Result, pos}
use Rattle.std.proofs.Math.Option.{Option, none, some}
use Rattle.std.specs.declared.option.Option as code_option
use Rattle.meaning.specs.Charge.{Charge, ◌⊕◌, within}
use Rattle.meaning.specs.Fault.{Fault, fault_at}
use Rattle.meaning.specs.FaultRecords.{fault_of}
use Rattle.meaning.specs.Or.{Or, fails, gives}
use Rattle.meaning.specs.Scopes.{Current, Had, Turn, in_current, made}
use Rattle.meaning.specs.Value.{Value, none as none_value, boolean, integer}
use Rattle.meaning.specs.declared.fault.Cause.TheVariants.{NoParts}
use Rattle.meaning.specs.declared.fault.Fault as code_fault
use Rattle.meaning.specs.declared.tree.Member.{Member}
use Rattle.reader.specs.Fields.{members_of}
use Rattle.store.specs.Stores.{Added, Over, supply, used}
use Rattle.store.specs.declared.cell.Ref.{Ref}
use Rattle.store.specs.declared.memory.Full.{Full}
use Rattle.store.specs.declared.memory.Store.{Store}
use Rattle.scopes.specs.Searching.{Answers, first_text}
use Rattle.scopes.specs.declared.loop_value.LoopMember.{LoopMember}
use Rattle.scopes.specs.declared.loop_value.LoopMember.TheVariants as members
use Rattle.scopes.specs.declared.loop_value.Turn as code_turn
use Rattle.scopes.specs.declared.var.Var.{Var}

-- a turn, in which the loop's names stand for something
abbrev pub turn_of : code_turn.Turn → Current → Turn
turn_of t current = record { current = current; position = t.position; length = t.length }

abbrev pub member_of : LoopMember → Value
member_of members.Absent = none_value
member_of (members.Flag b) = boolean b
member_of (members.Index n) = integer (pos n)

-- a value of several cells was made for that charge; or the charge passes the supply, and what was there is there
abbrev pub Builds : (before after : Store) → Charge → Value → Result Ref Full → Type 0
Builds before after more v (Ok r) = (within (supply before) (used before ⊕ more) ≡ true) × Added before after more v r
Builds before after more v (Err full) = (within (supply before) (used before ⊕ more) ≡ false) × Over before after

-- a member of `loop`, or the fault
abbrev pub Gives : Or Fault Had → Result LoopMember code_fault.Fault → Type 0
Gives (gives had) (Ok m) = had ≡ made (member_of m)
Gives (gives had) (Err g) = ⊥
Gives (fails f) (Ok m) = ⊥
Gives (fails f) (Err g) = fault_of g ≡ f

-- a value whose kind has that byte has no parts: the first further member faults
abbrev pub NoFurther : (byte : ℕ) → List Member → Result (Unit {0}) code_fault.Fault → Type 0
NoFurther byte [] (Ok done) = Unit {0}
NoFurther byte [] (Err g) = ⊥
NoFurther byte (m ∷ ms) (Ok done) = ⊥
NoFurther byte (m ∷ ms) (Err g) = fault_of g ≡ fault_at NoParts m.span byte

-- the turn that a loop is in, of so many, if one has begun
abbrev pub IsIn : (next length : ℕ) → code_option.Option code_turn.Turn → Type 0
IsIn next length None = next ≡ 0
IsIn next length (Some t) = (next ≡ suc t.position) × (t.length ≡ length)

-- what a loop has, if anything, or else what is found outside it
abbrev pub or_outward : Option (Or Fault Had) → Or Fault Had → Or Fault Had
or_outward o outward = elim o [ some had ↦ had | none ↦ outward ]

-- what code answers to a variable in a turn in which the loop's names stand for something
abbrev pub LooksIn : (before after : Store) → Var → Current → Result (code_option.Option Ref) code_fault.Fault → Type 0
LooksIn before after v current r =
    (outward : Or Fault Had) → Answers before after v.span (or_outward (in_current v.source.now current (first_text v) (members_of v.rest)) outward) outward r
