use Rattle.std.proofs.Common.{ap}
use Rattle.meaning.specs.Scopes.{ask}
use Rattle.meaning.specs.Sources.{answer}
use Rattle.meaning.specs.Walk.{walk}
use Rattle.reader.specs.Fields.{members_of}
use Rattle.store.specs.Stores.{value}
use Rattle.lookup.proofs.Walks.{walk_carried, answers_as, answers_value, answers_reason}
use Rattle.lookup.proofs.walking.answer_path.Goals as goal

pub returns-in-Ok : goal.returns-in-Ok
returns-in-Ok c =
    let s = c.args.store.now in
    let by = ask c.args.source.now in
    let v = value s c.args.start in
    let ms = members_of c.args.path in
    answers_as s _ (ap answer (walk_carried by v ms)) (answers_value s by (walk by v ms) c.in-Ok.found c.unwrap_or.result c.unwrap_or.ensures c.in-Ok.ensures)

pub returns-in-Err : goal.returns-in-Err
returns-in-Err c =
    let s = c.args.store.now in
    let by = ask c.args.source.now in
    let v = value s c.args.start in
    let ms = members_of c.args.path in
    answers_as s _ (ap answer (walk_carried by v ms)) (answers_reason s by (walk by v ms) c.in-Err.fault _ c.number.ensures c.in-Err.ensures)
