use Rattle.std.proofs.Common.{take, ◌∙◌, ap₂}
use Rattle.program.specs.Program as program
use Rattle.checker.specs.Templates.{source_of, tree_of}
use Rattle.job.specs.Listed.{record_program}
use Rattle.job.proofs.Meanings.{program_listed}
use Rattle.job.proofs.Writing.{wrote_same}
use Rattle.job.proofs.lines.Report.put_listing.Goals as goal

pub returns-in-Ok : goal.returns-in-Ok
returns-in-Ok c = λ scope e.
    let told = rw c.in-Ok.is at c.compile.ensures scope e in
    let source = source_of c.args.template.now in
    let tree = tree_of c.args.template.now in
    wrote_same c.put_program.result
    (ap₂ (λ s t. record_program s t (take c.in-Ok.count c.compile.new.instrs)) c.source.ensures.bytes c.tree.ensures.bytes
    ∙ program_listed source tree (program.compile scope) _ _ c.in-Ok.count told)
    c.put_program.ensures
