use Rattle.std.proofs.Common.{length, ◌+◌, ◌*◌, ap, ◌∙◌, arith}
use Rattle.packing.specs.Unpacking.{unpack}
use Rattle.checker.specs.Templates.{source_of, tree_of}
use Rattle.templates.specs.Entries.{scope_of}
use Rattle.templates.specs.Writing.{written}
use Rattle.templates.proofs.Indexed.{unpacked}
use Rattle.templates.proofs.Placed.{short, pieces_placed}
use Rattle.templates.proofs.memory.write_template.Goals as goal

pub write_bytes-requires : goal.write_bytes-requires
write_bytes-requires c =
    let fits = short _ _ c.source-source.ensures.ok in
    omega arith

pub write_bytes-requires-2 : goal.write_bytes-requires-2
write_bytes-requires-2 c =
    let fits = short _ _ c.tree-tree.ensures.ok in
    omega arith

pub invariant_of-result : goal.invariant_of-result
invariant_of-result c =
    let fits = short _ _ c.source-source.ensures.ok in
    let others = short _ _ c.tree-tree.ensures.ok in
    let t = c.args.template.now in
    let p = c.write_program-len.ensures.program (scope_of (unpack (source_of t) (tree_of t))) (unpacked (source_of t) (tree_of t) t.ok) in
    let few = p.short in
    record { within = c.requires.within; source = fits.source_short; tree = others.tree_short; program = few }

pub returns-clause-placed : goal.returns-clause-placed
returns-clause-placed c =
    let t = c.args.template.now in
    let source_is = c.source-source.ensures.bytes in
    let tree_is = c.tree-tree.ensures.bytes in
    let at = c.args.place * 16384 in
    pieces_placed (source_of t) (tree_of t) _ _ _ _ _ (record {
      front = c.write_bytes.new.memory.items;
      source_is = c.write_bytes.ensures.items ∙ ap (written c.args.bytes.now.items at) source_is;
      tree_is = c.write_bytes-2.ensures.items ∙ ap (written c.write_bytes.new.memory.items (at + 8192)) tree_is;
      source_len = ap length source_is;
      tree_len = ap length tree_is;
      ok = t.ok;
      programmed = c.write_program-len.ensures.program (scope_of (unpack (source_of t) (tree_of t))) (unpacked (source_of t) (tree_of t) t.ok);
      room = omega arith;
      space = omega arith;
    })
