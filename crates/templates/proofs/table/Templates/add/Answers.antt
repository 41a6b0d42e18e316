use Rattle.templates.proofs.Adding.{too_long_left, badly_named_left, no_room_left}
use Rattle.templates.proofs.table.Templates.add.Goals as goal

pub returns-in_err-check_program : goal.returns-in_err-check_program
returns-in_err-check_program c =
    let found = c.in_ok-template.ensures in
    too_long_left c.args.self.now c.args.name.now _ _ c.in_ok-template.template found.source found.tree
    _ c.in_err-check_program.ensures _ c.from_residual-in_err-check_program.ensures.1

pub returns-in_err-name : goal.returns-in_err-name
returns-in_err-name c =
    let found = c.in_ok-template.ensures in
    badly_named_left c.args.self.now c.args.name.now _ _ c.in_ok-template.template found.source found.tree
    c.in_ok-check_program.ensures _ c.in_err-name.ensures _ c.from_residual-in_err-name.ensures.1

pub returns-in_err-at : goal.returns-in_err-at
returns-in_err-at c =
    let found = c.in_ok-template.ensures in
    no_room_left c.args.self.now c.args.name.now _ _ c.in_ok-template.template found.source found.tree
    c.in_ok-check_program.ensures c.in_ok-name.name c.in_ok-name.ensures _ c.in_err-at.ensures _ c.from_residual-in_err-at.ensures.1
