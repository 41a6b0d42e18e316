use Rattle.std.proofs.Common.{◌+◌, ◌-◌, length, sym, refl, ap, ◌∙◌, arith}
use Rattle.std.proofs.lemmas.List.{with_items_is}
use Rattle.program.specs.Program as program
use Rattle.compiler.proofs.Means.{mean_length}
use Rattle.checker.specs.Templates.{tree_of}
use Rattle.templates.proofs.Written.{written_lent, length_written}
use Rattle.templates.proofs.memory.write_program.Goals as goal

pub returns : goal.returns
returns c =
    record {
      program = λ scope e.
          let m = c.args.memory.now in
          let at = c.args.at in
          let told = rw c.unwrap.ensures at c.compile.ensures scope e in
          let records = told.2.records in
          let size = mean_length (tree_of c.args.template.now) records (program.compile scope) told.2.mean in
          let part = written_lent c.as_mut_slice.result.now m.items records _ at (at + 1024 - at) (length (program.compile scope)) c.as_mut_slice.ensures.value (sym size) (omega (arith, told.0, told.1)) told.2.is in
          let kept = ap length part ∙ length_written m.items at records (omega (arith, m.ok.0, size, told.0, told.1)) ∙ sym m.ok.0 in
          record { records = records; mean = told.2.mean; counts = told.0; short = told.1; is = with_items_is m _ kept ∙ part };
      len = refl;
    }
