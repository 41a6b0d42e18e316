-- What was read and what it costs, and that charges add up.
use Rattle.std.proofs.Common.{◌≡◌, ℕ, ◌+◌, ◌<◌, ◌≤◌, List, sym, refl, ap, ◌∙◌, arith}
use Rattle.meaning.specs.Charge.{Charge, ◌⊕◌, free, one_cell}
use Rattle.meaning.specs.Or.{fails, gives}
use Rattle.meaning.specs.declared.fault.Cause.{Cause}
use Rattle.packing.specs.Reader.{Outcome, read, refused}
use Rattle.packing.proofs.Readers.{finish, never_read}
use Rattle.values.specs.Costs.{charge_of, with_part}
use Rattle.values.specs.Measures.{Ends, weigh}
use Rattle.values.specs.declared.cost.Cost.{Cost}

-- CHARGES

same_charge : {a b c d : ℕ} → a ≡ c → b ≡ d → ◌≡◌ {A = Charge} (record { cells = a; bytes = b }) (record { cells = c; bytes = d })
same_charge p q = λ i. record { cells = p i; bytes = q i }

pub plus_assoc : (a b c : Charge) → a ⊕ (b ⊕ c) ≡ (a ⊕ b) ⊕ c
plus_assoc a b c = same_charge (omega arith) (omega arith)

pub plus_free : (a : Charge) → a ⊕ free ≡ a
plus_free a = same_charge (omega arith) (omega arith)

free_plus : (a : Charge) → free ⊕ a ≡ a
free_plus a = same_charge (omega arith) (omega arith)

-- one part more
pub part_charged : (whole part sum : Cost) (key : ℕ) (charge : Charge) → sum ≡ with_part whole part key → charge_of part ≡ charge → charge_of sum ≡ charge_of whole ⊕ (charge ⊕ record { cells = 1; bytes = key })
part_charged whole part sum key charge is costs =
    rw is (same_charge {b = whole.bytes + part.bytes + key} (omega arith) (omega arith))
    ∙ ap (λ (c : Charge). charge_of whole ⊕ (c ⊕ record { cells = 1; bytes = key })) costs

-- one part more, whose bytes of the key stand before it
pub part_ends : {bytes : List ℕ} {pos next at end : ℕ} {whole part sum : Cost} (key : ℕ) → Ends bytes pos whole next → next + key ≤ at → Ends bytes at part end → at + part.parts < end → sum ≡ with_part whole part key → Ends bytes pos sum end
part_ends key so_far ahead here more is =
    let values = ap (λ (c : Cost). c.values) is in
    let parts = ap (λ (c : Cost). c.parts) is in
    let text = ap (λ (c : Cost). c.bytes) is in
    record { inside = here.inside; values = omega arith; parts = omega arith; text = omega arith }

-- the value around its parts
abbrev pub with_value : Cost → Cost
with_value parts = record { values = parts.values + 1; parts = parts.parts; bytes = parts.bytes }

pub value_charged : (parts : Cost) (charge : Charge) → charge_of parts ≡ charge → charge_of (with_value parts) ≡ one_cell ⊕ charge
value_charged parts charge costs = same_charge {b = parts.bytes} (omega arith) (omega arith) ∙ ap (λ (c : Charge). one_cell ⊕ c) costs

-- WHAT WAS READ

module _ {A : Type 0} (f : A → Charge) (o : Outcome A) where
  pub record ReadAs (c : Charge) (rest : List ℕ) : Type 0 where
    pub what : A
    pub is : o ≡ read what rest
    pub costs : c ≡ f what

pub read_as : {A : Type 0} (f : A → Charge) (o : Outcome A) (c : Charge) (rest : List ℕ) → read c rest ≡ weigh f o → ReadAs f o c rest
read_as f (gives (a, s)) c rest e =
    let told = finish (λ d u. (read a u ≡ read a rest) × (c ≡ d)) e (refl, refl) in
    record { what = a; is = told.0; costs = told.1 }
read_as f (fails (cause, left)) c rest e = absurd (never_read (sym e))

pub refused_as : {A : Type 0} (f : A → Charge) (o : Outcome A) (cause : Cause) (left : ℕ) → refused cause left ≡ weigh f o → o ≡ refused cause left
refused_as f (gives (a, s)) cause left e = absurd (never_read e)
refused_as f (fails (cause', left')) cause left e = cc

-- what is still to be measured, on top of what was
abbrev pub after : {A : Type 0} → (A → Charge) → Charge → A → Charge
after f sum a = sum ⊕ f a

pub from_nothing : {A : Type 0} (f : A → Charge) (o : Outcome A) → weigh (after f free) o ≡ weigh f o
from_nothing f (gives (a, s)) = ap (λ c. read c s) (free_plus (f a))
from_nothing f (fails (cause, left)) = refl
