use Rattle.std.proofs.Common.{◌≡◌, ℕ, true, List, sym, ap, ◌∙◌, subst}
use Rattle.meaning.specs.Or.{gives}
use Rattle.packing.specs.Unpacking.{unpack}
use Rattle.checker.specs.Whole.{unpacks}
use Rattle.checker.specs.Templates.{source_of}
use Rattle.checker.specs.There.{ScopeThere}
use Rattle.checker.proofs.WholeThere.{template_scope, whole_there}
use Rattle.job.specs.Outline.{outline_scope}
use Rattle.job.proofs.Writing.{adds_same}
use Rattle.job.proofs.outline.outline.Goals as goal

pub invariant_of-walk : goal.invariant_of-walk
invariant_of-walk c =
    let source = c.source.result.now in
    let tree = c.tree.result.now in
    let good : unpacks source tree ≡ true = subst (λ (s : List ℕ). unpacks s tree ≡ true) (sym c.source.ensures.bytes) c.tree.ensures.ok in
    let found = template_scope source tree good in
    let whole = whole_there source tree found.0 found.1 in
    record { source_short = whole.source_short; tree_short = whole.tree_short }

pub scope-requires-clause-there : goal.scope-requires-clause-there
scope-requires-clause-there c =
    let source = c.source.result.now in
    let tree = c.tree.result.now in
    let good : unpacks source tree ≡ true = subst (λ (s : List ℕ). unpacks s tree ≡ true) (sym c.source.ensures.bytes) c.tree.ensures.ok in
    let found = template_scope source tree good in
    let whole = whole_there source tree found.0 found.1 in
    record { scope = found.0; fits = whole.fits; stands = whole.stands }

pub returns : goal.returns
returns c = λ scope e.
    let source = c.source.result.now in
    let tree = c.tree.result.now in
    let here : unpack source tree ≡ gives scope =
    ap (λ (s : List ℕ). unpack s tree) c.source.ensures.bytes ∙ ap (λ (t : List ℕ). unpack (source_of c.args.template.now) t) c.tree.ensures.bytes ∙ e in
    let whole = whole_there source tree scope here in
    let there : ScopeThere source tree 0 = record { scope = scope; fits = whole.fits; stands = whole.stands } in
    record { adds = adds_same (ap (λ (s : List ℕ). outline_scope s 1 scope) c.source.ensures.bytes) (c.in_ok-_end.ensures there).wrote.adds }
