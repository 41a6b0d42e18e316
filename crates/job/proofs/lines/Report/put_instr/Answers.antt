use Rattle.job.proofs.Writing.{then_wrote}
use Rattle.job.proofs.lines.Report.put_instr.Goals as goal

-- the search stops at names that are this long
pub returns-in_ok-put-in-IncludeWith : goal.returns-in_ok-put-in-IncludeWith
returns-in_ok-put-in-IncludeWith c =
    rw c.in-IncludeWith.is (then_wrote c.put_quoted-in-IncludeWith.result c.in_ok-put-in-IncludeWith.ensures.adds c.put_quoted-in-IncludeWith.ensures)

pub returns-in_ok-put-in-ExprStartLiteral : goal.returns-in_ok-put-in-ExprStartLiteral
returns-in_ok-put-in-ExprStartLiteral c =
    rw c.in-ExprStartLiteral.is (then_wrote c.put_value.result c.in_ok-put-in-ExprStartLiteral.ensures.adds c.put_value.ensures)

pub returns-in-ExprStartList : goal.returns-in-ExprStartList
returns-in-ExprStartList c = rw c.in-ExprStartList.is c.put-in-ExprStartList.ensures

pub returns-in_ok-put-in-ExprMapInsert : goal.returns-in_ok-put-in-ExprMapInsert
returns-in_ok-put-in-ExprMapInsert c =
    rw c.in-ExprMapInsert.is (then_wrote c.put_quoted-in-ExprMapInsert.result c.in_ok-put-in-ExprMapInsert.ensures.adds c.put_quoted-in-ExprMapInsert.ensures)
