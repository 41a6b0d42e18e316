use Rattle.std.proofs.Common.{◌≡◌, suc, ◌-◌, refl, ◌∙◌, arith}
use Rattle.reader.proofs.Members.{members_stop, members_step, members_end}
use Rattle.reader.proofs.field.pass_members.Goals as goal

pub loop-member-init : goal.loop-member-init
loop-member-init c = (omega arith, c.requires, (c.args.count, omega arith, λ at. refl))

pub returns-in_err-next : goal.returns-in_err-next
returns-in_err-next c =
    let left = c.loop-member.invariant.2.0 in
    let counts = c.loop-member.invariant.2.1 in
    let some : left ≡ suc (left - 1) = omega arith in
    rw c.from_residual.ensures
    (record { same = λ at. members_stop left (left - 1) at _ some (c.in_err-next.ensures.same at) ∙ c.loop-member.invariant.2.2 at; moves = tt })

pub loop-member-preserved : goal.loop-member-preserved
loop-member-preserved c =
    let left = c.loop-member.invariant.2.0 in
    let counts = c.loop-member.invariant.2.1 in
    let moves = c.in_ok-next.ensures.moves in
    let some : left ≡ suc (left - 1) = omega arith in (
      omega arith,
      omega arith,
      (left - 1, omega arith, λ at. members_step left (left - 1) at _ _ _ some (c.in_ok-next.ensures.same at) ∙ c.loop-member.invariant.2.2 at),
    )

pub returns : goal.returns
returns c =
    let left = c.loop-member.invariant.2.0 in
    let counts = c.loop-member.invariant.2.1 in
    let none : left ≡ 0 = omega arith in
    record {
      same = λ at. members_end left at _ none ∙ c.loop-member.invariant.2.2 at;
      moves = (c.loop-member.invariant.0, c.loop-member.invariant.1);
    }
