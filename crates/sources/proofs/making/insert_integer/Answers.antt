use Rattle.std.proofs.Common.{rules, w64, to_z-of_z, ◌≡◌, ap}
use Rattle.meaning.specs.Charge.{cell_and_text, one_cell}
use Rattle.meaning.specs.Value.{Value, integer}
use Rattle.store.specs.Stores.{value}
use Rattle.store.specs.Values.{inserted}
use Rattle.sources.proofs.Steps.{then_builds, made_builds, builds_as}
use Rattle.sources.proofs.making.insert_integer.Goals as goal

pub returns : goal.returns
returns c =
    let a = c.args.store.now in
    let b = c.make_integer.new.self in
    let d = c.insert.new.self in
    let key = c.args.key.now in
    let part = c.in_ok-part.ensures.1 in
    let map : value b c.args.map ≡ value a c.args.map = part.grown.over.keeps c.args.map c.requires.map_known in
    let n = ap integer (to_z-of_z {w = w64} {z = c.args.n} (search rules)) in
    builds_as a d _ _ _ c.insert.result (λ i. inserted (map i) key (n i))
    (then_builds a b d one_cell (cell_and_text key) _ c.in_ok-part.part (λ (v : Value). inserted (value b c.args.map) key v) c.insert.result part
    (made_builds b d (cell_and_text key) _ c.insert.result c.insert.ensures))
