use Rattle.packing.specs.Unpacking.{unpack}
use Rattle.job.proofs.Meanings.{verdict_adds}
use Rattle.job.proofs.lines.Report.put_verdict.Goals as goal

pub returns-in_ok-put_listing-in-Ok-clause-wrote : goal.returns-in_ok-put_listing-in-Ok-clause-wrote
returns-in_ok-put_listing-in-Ok-clause-wrote c =
    let source = c.args.source.now in
    let tree = c.args.tree.now in
    let outlined = rw (c.in-Ok.ensures.source, c.in-Ok.ensures.tree) at c.in_ok-outline-in-Ok.ensures in
    let listed = rw (c.in-Ok.ensures.source, c.in-Ok.ensures.tree) at c.in_ok-put_listing-in-Ok.ensures in
    record {
      adds =
          verdict_adds source tree (unpack source tree) c.in-Ok.ensures.answers c.in_ok-put_taken-in-Ok.ensures.adds
          (λ scope e. (outlined scope e).adds) (λ scope e. (listed scope e).adds);
    }
