use Rattle.std.proofs.lemmas.Result.{err_from_is_err_and}
use Rattle.render.specs.Renderers.{given_by}
use Rattle.render.proofs.Executing.{goes_at}
use Rattle.render.proofs.Needs.{branch_needs, include_with_needs, with_end_needs, with_needs}
use Rattle.reader.specs.Fields.{text_of}
use Rattle.std.proofs.Common.{true, false}
use Rattle.render.proofs.renderer.RendererImpl.execute.Goals as goal

pub branch-state-requires-clause-one : goal.branch-state-requires-clause-one
branch-state-requires-clause-one g c =
    let given = given_by g.S.ValueSource.valued g.C.Callables.named g.F.Formatter.formatted c.args.self.now in
    (branch_needs g.K.Sink.sink g.K.Sink.state given c.args.state.now true c.in-JumpIfTrue.target (goes_at g.K.Sink.sink g.K.Sink.state given c.args.state.now c.args.instr _ c.in-JumpIfTrue.is c.requires.goes)).0

pub branch-state-requires-in-JumpIfFalse-clause-one : goal.branch-state-requires-in-JumpIfFalse-clause-one
branch-state-requires-in-JumpIfFalse-clause-one g c =
    let given = given_by g.S.ValueSource.valued g.C.Callables.named g.F.Formatter.formatted c.args.self.now in
    (branch_needs g.K.Sink.sink g.K.Sink.state given c.args.state.now false c.in-JumpIfFalse.target (goes_at g.K.Sink.sink g.K.Sink.state given c.args.state.now c.args.instr _ c.in-JumpIfFalse.is c.requires.goes)).0

pub with_start-requires-clause-some : goal.with_start-requires-clause-some
with_start-requires-clause-some g c =
    let given = given_by g.S.ValueSource.valued g.C.Callables.named g.F.Formatter.formatted c.args.self.now in
    (with_needs g.K.Sink.sink g.K.Sink.state given c.args.state.now c.in-WithStart.name (goes_at g.K.Sink.sink g.K.Sink.state given c.args.state.now c.args.instr _ c.in-WithStart.is c.requires.goes)).0

pub with_end-requires-clause-ends : goal.with_end-requires-clause-ends
with_end-requires-clause-ends g c =
    let given = given_by g.S.ValueSource.valued g.C.Callables.named g.F.Formatter.formatted c.args.self.now in
    with_end_needs g.K.Sink.sink g.K.Sink.state given c.args.state.now (goes_at g.K.Sink.sink g.K.Sink.state given c.args.state.now c.args.instr _ c.in-WithEnd.is c.requires.goes)

pub include_with-requires-clause-some : goal.include_with-requires-clause-some
include_with-requires-clause-some g c =
    let given = given_by g.S.ValueSource.valued g.C.Callables.named g.F.Formatter.formatted c.args.self.now in
    (include_with_needs g.K.Sink.sink g.K.Sink.state given c.args.state.now (text_of c.in-IncludeWith.name) (goes_at g.K.Sink.sink g.K.Sink.state given c.args.state.now c.args.instr _ c.in-IncludeWith.is c.requires.goes)).0

pub include_with-requires-clause-room : goal.include_with-requires-clause-room
include_with-requires-clause-room g c =
    let given = given_by g.S.ValueSource.valued g.C.Callables.named g.F.Formatter.formatted c.args.self.now in
    (include_with_needs g.K.Sink.sink g.K.Sink.state given c.args.state.now (text_of c.in-IncludeWith.name) (goes_at g.K.Sink.sink g.K.Sink.state given c.args.state.now c.args.instr _ c.in-IncludeWith.is c.requires.goes)).1

pub loop_start-requires-clause-goes : goal.loop_start-requires-clause-goes
loop_start-requires-clause-goes g c =
    let given = given_by g.S.ValueSource.valued g.C.Callables.named g.F.Formatter.formatted c.args.self.now in
    (given, (goes_at g.K.Sink.sink g.K.Sink.state given c.args.state.now c.args.instr _ c.in-LoopStart.is c.requires.goes))

pub literal-requires-clause-goes : goal.literal-requires-clause-goes
literal-requires-clause-goes g c =
    let given = given_by g.S.ValueSource.valued g.C.Callables.named g.F.Formatter.formatted c.args.self.now in
    (given, (goes_at g.K.Sink.sink g.K.Sink.state given c.args.state.now c.args.instr _ c.in-ExprStartLiteral.is c.requires.goes))

pub list_start-requires-clause-goes : goal.list_start-requires-clause-goes
list_start-requires-clause-goes g c =
    let given = given_by g.S.ValueSource.valued g.C.Callables.named g.F.Formatter.formatted c.args.self.now in
    (given, (goes_at g.K.Sink.sink g.K.Sink.state given c.args.state.now c.args.instr _ c.in-ExprStartList.is c.requires.goes))

pub map_start-requires-clause-goes : goal.map_start-requires-clause-goes
map_start-requires-clause-goes g c =
    let given = given_by g.S.ValueSource.valued g.C.Callables.named g.F.Formatter.formatted c.args.self.now in
    (given, (goes_at g.K.Sink.sink g.K.Sink.state given c.args.state.now c.args.instr _ c.in-ExprStartMap.is c.requires.goes))

pub list_push-requires-clause-goes : goal.list_push-requires-clause-goes
list_push-requires-clause-goes g c =
    let given = given_by g.S.ValueSource.valued g.C.Callables.named g.F.Formatter.formatted c.args.self.now in
    (given, (goes_at g.K.Sink.sink g.K.Sink.state given c.args.state.now c.args.instr _ c.in-ExprListPush.is c.requires.goes))

pub map_insert-requires-clause-goes : goal.map_insert-requires-clause-goes
map_insert-requires-clause-goes g c =
    let given = given_by g.S.ValueSource.valued g.C.Callables.named g.F.Formatter.formatted c.args.self.now in
    (given, (goes_at g.K.Sink.sink g.K.Sink.state given c.args.state.now c.args.instr _ c.in-ExprMapInsert.is c.requires.goes))

pub loop_next-requires-clause-goes : goal.loop_next-requires-clause-goes
loop_next-requires-clause-goes g c =
    let given = given_by g.S.ValueSource.valued g.C.Callables.named g.F.Formatter.formatted c.args.self.now in
    (given, (goes_at g.K.Sink.sink g.K.Sink.state given c.args.state.now c.args.instr _ c.in-LoopNext.is c.requires.goes))

pub returns-in_err-loop_start-in-LoopStart-clause-came : goal.returns-in_err-loop_start-in-LoopStart-clause-came
returns-in_err-loop_start-in-LoopStart-clause-came g c =
    let given = given_by g.S.ValueSource.valued g.C.Callables.named g.F.Formatter.formatted c.args.self.now in
    let p = err_from_is_err_and c.from_residual-in_err-loop_start-in-LoopStart.result c.from_residual-in_err-loop_start-in-LoopStart.ensures.1 in
    rw (c.in-LoopStart.is, p.1, p.2) (c.in_err-loop_start-in-LoopStart.ensures.came given)

pub returns-in_ok-loop_start-in-LoopStart-clause-came : goal.returns-in_ok-loop_start-in-LoopStart-clause-came
returns-in_ok-loop_start-in-LoopStart-clause-came g c =
    let given = given_by g.S.ValueSource.valued g.C.Callables.named g.F.Formatter.formatted c.args.self.now in
    rw c.in-LoopStart.is (c.in_ok-loop_start-in-LoopStart.ensures.came given)

pub returns-in_err-literal-in-ExprStartLiteral-clause-came : goal.returns-in_err-literal-in-ExprStartLiteral-clause-came
returns-in_err-literal-in-ExprStartLiteral-clause-came g c =
    let given = given_by g.S.ValueSource.valued g.C.Callables.named g.F.Formatter.formatted c.args.self.now in
    let p = err_from_is_err_and c.from_residual-in_err-literal-in-ExprStartLiteral.result c.from_residual-in_err-literal-in-ExprStartLiteral.ensures.1 in
    rw (c.in-ExprStartLiteral.is, p.1, p.2) (c.in_err-literal-in-ExprStartLiteral.ensures.came given)

pub returns-in_ok-literal-in-ExprStartLiteral-clause-came : goal.returns-in_ok-literal-in-ExprStartLiteral-clause-came
returns-in_ok-literal-in-ExprStartLiteral-clause-came g c =
    let given = given_by g.S.ValueSource.valued g.C.Callables.named g.F.Formatter.formatted c.args.self.now in
    rw c.in-ExprStartLiteral.is (c.in_ok-literal-in-ExprStartLiteral.ensures.came given)

pub returns-in_err-list_start-in-ExprStartList-clause-came : goal.returns-in_err-list_start-in-ExprStartList-clause-came
returns-in_err-list_start-in-ExprStartList-clause-came g c =
    let given = given_by g.S.ValueSource.valued g.C.Callables.named g.F.Formatter.formatted c.args.self.now in
    let p = err_from_is_err_and c.from_residual-in_err-list_start-in-ExprStartList.result c.from_residual-in_err-list_start-in-ExprStartList.ensures.1 in
    rw (c.in-ExprStartList.is, p.1, p.2) (c.in_err-list_start-in-ExprStartList.ensures.came given)

pub returns-in_ok-list_start-in-ExprStartList-clause-came : goal.returns-in_ok-list_start-in-ExprStartList-clause-came
returns-in_ok-list_start-in-ExprStartList-clause-came g c =
    let given = given_by g.S.ValueSource.valued g.C.Callables.named g.F.Formatter.formatted c.args.self.now in
    rw c.in-ExprStartList.is (c.in_ok-list_start-in-ExprStartList.ensures.came given)

pub returns-in_err-map_start-in-ExprStartMap-clause-came : goal.returns-in_err-map_start-in-ExprStartMap-clause-came
returns-in_err-map_start-in-ExprStartMap-clause-came g c =
    let given = given_by g.S.ValueSource.valued g.C.Callables.named g.F.Formatter.formatted c.args.self.now in
    let p = err_from_is_err_and c.from_residual-in_err-map_start-in-ExprStartMap.result c.from_residual-in_err-map_start-in-ExprStartMap.ensures.1 in
    rw (c.in-ExprStartMap.is, p.1, p.2) (c.in_err-map_start-in-ExprStartMap.ensures.came given)

pub returns-in_ok-map_start-in-ExprStartMap-clause-came : goal.returns-in_ok-map_start-in-ExprStartMap-clause-came
returns-in_ok-map_start-in-ExprStartMap-clause-came g c =
    let given = given_by g.S.ValueSource.valued g.C.Callables.named g.F.Formatter.formatted c.args.self.now in
    rw c.in-ExprStartMap.is (c.in_ok-map_start-in-ExprStartMap.ensures.came given)

pub returns-in_err-list_push-in-ExprListPush-clause-came : goal.returns-in_err-list_push-in-ExprListPush-clause-came
returns-in_err-list_push-in-ExprListPush-clause-came g c =
    let given = given_by g.S.ValueSource.valued g.C.Callables.named g.F.Formatter.formatted c.args.self.now in
    let p = err_from_is_err_and c.from_residual-in_err-list_push-in-ExprListPush.result c.from_residual-in_err-list_push-in-ExprListPush.ensures.1 in
    rw (c.in-ExprListPush.is, p.1, p.2) (c.in_err-list_push-in-ExprListPush.ensures.came given)

pub returns-in_ok-list_push-in-ExprListPush-clause-came : goal.returns-in_ok-list_push-in-ExprListPush-clause-came
returns-in_ok-list_push-in-ExprListPush-clause-came g c =
    let given = given_by g.S.ValueSource.valued g.C.Callables.named g.F.Formatter.formatted c.args.self.now in
    rw c.in-ExprListPush.is (c.in_ok-list_push-in-ExprListPush.ensures.came given)

pub returns-in_err-map_insert-in-ExprMapInsert-clause-came : goal.returns-in_err-map_insert-in-ExprMapInsert-clause-came
returns-in_err-map_insert-in-ExprMapInsert-clause-came g c =
    let given = given_by g.S.ValueSource.valued g.C.Callables.named g.F.Formatter.formatted c.args.self.now in
    let p = err_from_is_err_and c.from_residual-in_err-map_insert-in-ExprMapInsert.result c.from_residual-in_err-map_insert-in-ExprMapInsert.ensures.1 in
    rw (c.in-ExprMapInsert.is, p.1, p.2) (c.in_err-map_insert-in-ExprMapInsert.ensures.came given)

pub returns-in_ok-map_insert-in-ExprMapInsert-clause-came : goal.returns-in_ok-map_insert-in-ExprMapInsert-clause-came
returns-in_ok-map_insert-in-ExprMapInsert-clause-came g c =
    let given = given_by g.S.ValueSource.valued g.C.Callables.named g.F.Formatter.formatted c.args.self.now in
    rw c.in-ExprMapInsert.is (c.in_ok-map_insert-in-ExprMapInsert.ensures.came given)

pub returns-in_err-template-in-Include-clause-came : goal.returns-in_err-template-in-Include-clause-came
returns-in_err-template-in-Include-clause-came g c =
    let given = given_by g.S.ValueSource.valued g.C.Callables.named g.F.Formatter.formatted c.args.self.now in
    let p = err_from_is_err_and c.from_residual-in_err-template-in-Include.result c.from_residual-in_err-template-in-Include.ensures.1 in
    rw (c.in-Include.is, p.1, p.2) (c.in_err-template-in-Include.ensures given)

pub returns-in_ok-template-in-Include-clause-came : goal.returns-in_ok-template-in-Include-clause-came
returns-in_ok-template-in-Include-clause-came g c =
    let given = given_by g.S.ValueSource.valued g.C.Callables.named g.F.Formatter.formatted c.args.self.now in
    rw c.in-Include.is (c.in_ok-template-in-Include.ensures.0, c.in_ok-template-in-Include.ensures.1 given)

pub returns-in_err-template-in-IncludeWith-clause-came : goal.returns-in_err-template-in-IncludeWith-clause-came
returns-in_err-template-in-IncludeWith-clause-came g c =
    let given = given_by g.S.ValueSource.valued g.C.Callables.named g.F.Formatter.formatted c.args.self.now in
    let p = err_from_is_err_and c.from_residual-in_err-template-in-IncludeWith.result c.from_residual-in_err-template-in-IncludeWith.ensures.1 in
    rw (c.in-IncludeWith.is, p.1, p.2) (c.in_err-template-in-IncludeWith.ensures.includes given)

pub returns-in_ok-template-in-IncludeWith-clause-came : goal.returns-in_ok-template-in-IncludeWith-clause-came
returns-in_ok-template-in-IncludeWith-clause-came g c =
    let given = given_by g.S.ValueSource.valued g.C.Callables.named g.F.Formatter.formatted c.args.self.now in
    rw c.in-IncludeWith.is (c.in_ok-template-in-IncludeWith.ensures.includes.0, c.in_ok-template-in-IncludeWith.ensures.includes.1 given)

pub returns-in-Jump-clause-came : goal.returns-in-Jump-clause-came
returns-in-Jump-clause-came g c =
    let given = given_by g.S.ValueSource.valued g.C.Callables.named g.F.Formatter.formatted c.args.self.now in
    rw c.in-Jump.is (c.jump.ensures.came given)

pub returns-in-JumpIfTrue-clause-came : goal.returns-in-JumpIfTrue-clause-came
returns-in-JumpIfTrue-clause-came g c =
    let given = given_by g.S.ValueSource.valued g.C.Callables.named g.F.Formatter.formatted c.args.self.now in
    rw c.in-JumpIfTrue.is (c.branch-state.ensures.came given)

pub returns-in-JumpIfFalse-clause-came : goal.returns-in-JumpIfFalse-clause-came
returns-in-JumpIfFalse-clause-came g c =
    let given = given_by g.S.ValueSource.valued g.C.Callables.named g.F.Formatter.formatted c.args.self.now in
    rw c.in-JumpIfFalse.is (c.branch-state-in-JumpIfFalse.ensures.came given)

pub returns-in-LoopNext-clause-came : goal.returns-in-LoopNext-clause-came
returns-in-LoopNext-clause-came g c =
    let given = given_by g.S.ValueSource.valued g.C.Callables.named g.F.Formatter.formatted c.args.self.now in
    rw c.in-LoopNext.is (c.loop_next.ensures.came given)

pub returns-in-WithStart-clause-came : goal.returns-in-WithStart-clause-came
returns-in-WithStart-clause-came g c =
    let given = given_by g.S.ValueSource.valued g.C.Callables.named g.F.Formatter.formatted c.args.self.now in
    rw c.in-WithStart.is (c.with_start.ensures.came given)

pub returns-in-WithEnd-clause-came : goal.returns-in-WithEnd-clause-came
returns-in-WithEnd-clause-came g c =
    let given = given_by g.S.ValueSource.valued g.C.Callables.named g.F.Formatter.formatted c.args.self.now in
    rw c.in-WithEnd.is (c.with_end.ensures.came given)
