use Rattle.std.proofs.Common.{rules, refl, ap, ◌∙◌, arith}
use Rattle.meaning.specs.Fault.{fault}
use Rattle.meaning.specs.declared.fault.Cause.TheVariants.{TooManyInstructions}
use Rattle.checker.specs.Templates.{source_of}
use Rattle.compiler.proofs.Wholes.{whole_counts, whole_holds}
use Rattle.compiler.proofs.programs.compile.Goals as goal

pub returns-then-count-gt-MOST_INSTRUCTIONS : goal.returns-then-count-gt-MOST_INSTRUCTIONS
returns-then-count-gt-MOST_INSTRUCTIONS c = λ scope e.
    let counts = whole_counts (source_of c.args.template.now) c.tree-tree.ensures.bytes scope e c.new-counted.ensures.none c.compile_scope.ensures.made in
    (omega arith, c.of_call.ensures ∙ ap (fault TooManyInstructions) counts, refl)

pub returns-then-count-instrs : goal.returns-then-count-instrs
returns-then-count-instrs c = λ scope e.
    let counts = whole_counts (source_of c.args.template.now) c.tree-tree.ensures.bytes scope e c.new-counted.ensures.none c.compile_scope.ensures.made in
    (counts, omega arith, omega arith, refl)

pub returns : goal.returns
returns c = λ scope e.
    let source = source_of c.args.template.now in
    let bytes = c.tree-tree.ensures.bytes in
    let counted = whole_counts source bytes scope e c.new-counted.ensures.none c.compile_scope.ensures.made in
    let counts = whole_counts source bytes scope e c.new-written.ensures.none c.compile_scope-2.ensures.made in
    (counts, omega arith, whole_holds source bytes scope e c.new-written.ensures.none c.compile_scope-2.ensures.made c.new-written.ensures.same (search rules) (omega arith))
