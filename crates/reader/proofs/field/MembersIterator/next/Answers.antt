use Rattle.std.proofs.Common.{ℕ, List, ◌≡◌, ◌-◌, [], length, take, drop, ap, arith, length-drop}
use Rattle.std.proofs.lemmas.List.{take_all}
use Rattle.reader.specs.Fields.{members_of}
use Rattle.reader.proofs.Members.{decoded_more, decoded_cut, decoded_none}
use Rattle.reader.proofs.field.MembersIterator.next.Goals as goal

pub returns-in_err-count-clause-steps : goal.returns-in_err-count-clause-steps
returns-in_err-count-clause-steps c =
    let none : members_of c.args.self.now ≡ [] = decoded_none c.args.self.now.count c.args.self.now.bytes.now (omega (arith, c.in_err-count.ensures)) in
    rw c.from_residual.ensures (none, none)

pub returns-in_err-member-clause-steps : goal.returns-in_err-member-clause-steps
returns-in_err-member-clause-steps c =
    let none : members_of c.args.self.now ≡ [] = decoded_cut c.args.self.now.count c.args.self.now.bytes.now (c.in_err-member.ensures.same 0) in
    rw c.from_residual-in_err-member.ensures (none, none)

-- the slice behind the first member holds what is left
rest : (bytes : List ℕ) (next : ℕ) → take (length bytes - next) (drop next bytes) ≡ drop next bytes
rest bytes next = take_all (length bytes - next) (drop next bytes) (omega (arith, length-drop next bytes))

pub returns-clause-steps : goal.returns-clause-steps
returns-clause-steps c =
    let bytes = c.args.self.now.bytes.now in
    let next = c.in_ok-member.next in
    let less = c.in_ok-count.ensures in
    rw (less.1, rest bytes next) (decoded_more c.args.self.now.count c.in_ok-member.member bytes (drop next bytes) less.0 (c.in_ok-member.ensures.same 0))

pub returns-clause-goes : goal.returns-clause-goes
returns-clause-goes c =
    let bytes = c.args.self.now.bytes.now in
    let next = c.in_ok-member.next in
    let less = c.in_ok-count.ensures in
    let one = decoded_more c.args.self.now.count c.in_ok-member.member bytes (drop next bytes) less.0 (c.in_ok-member.ensures.same 0) in
    record { on = λ _. (tt, tt, rw (less.1, rest bytes next) (omega (arith, ap length one))); keeps = tt; rests = λ _. tt }
