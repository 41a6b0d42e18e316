use Rattle.std.proofs.Common.{codes, w32, w64, to_z, of_z, Ok, Err, rules, to_z-of_z, ◌∙◌}
use Rattle.sources.proofs.Steps.{builds_as, falls, integer_in}
use Rattle.sources.proofs.PotsMade.{pot_made}
use Rattle.sources.proofs.making.make_pot.Goals as goal

pub returns-in_err-deep : goal.returns-in_err-deep
returns-in_err-deep c =
    let a = c.args.store.now in
    let b = c.insert_integer.new.store in
    let depth = integer_in a c.empty_map.new.self b _ _ _ (codes "depth") (to_z w64 (of_z w64 c.from.result)) (Err c.in_err-deep.field-0.0) c.in_ok-empty.ensures.1 c.in_err-deep.ensures in
    falls a b record { cells = 3; bytes = 5 } record { cells = 6; bytes = 12 } _ _ c.from_residual-in_err-deep.ensures.0 depth

pub returns-in_err-north : goal.returns-in_err-north
returns-in_err-north c =
    let a = c.args.store.now in
    let b = c.insert_integer.new.store in
    let d = c.insert_integer-2.new.store in
    let depth = integer_in a c.empty_map.new.self b _ _ _ (codes "depth") (to_z w64 (of_z w64 c.from.result)) (Ok c.in_ok-deep.deep) c.in_ok-empty.ensures.1 c.in_ok-deep.ensures in
    let lat = integer_in a b d _ _ _ (codes "lat") (to_z w64 (of_z w64 c.from-2.result)) (Err c.in_err-north.field-0.0) depth.1 c.in_err-north.ensures in
    falls a d record { cells = 5; bytes = 8 } record { cells = 4; bytes = 9 } _ _ c.from_residual-in_err-north.ensures.0 lat

pub returns-in_err-placed : goal.returns-in_err-placed
returns-in_err-placed c =
    let a = c.args.store.now in
    let b = c.insert_integer.new.store in
    let d = c.insert_integer-2.new.store in
    let e = c.insert_integer-3.new.store in
    let depth = integer_in a c.empty_map.new.self b _ _ _ (codes "depth") (to_z w64 (of_z w64 c.from.result)) (Ok c.in_ok-deep.deep) c.in_ok-empty.ensures.1 c.in_ok-deep.ensures in
    let lat = integer_in a b d _ _ _ (codes "lat") (to_z w64 (of_z w64 c.from-2.result)) (Ok c.in_ok-north.north) depth.1 c.in_ok-north.ensures in
    let lon = integer_in a d e _ _ _ (codes "lon") (to_z w64 (of_z w64 c.from-3.result)) (Err c.in_err-placed.field-0.0) lat.1 c.in_err-placed.ensures in
    falls a e record { cells = 7; bytes = 11 } record { cells = 2; bytes = 6 } _ _ c.from_residual-in_err-placed.ensures.0 lon

pub returns : goal.returns
returns c =
    let a = c.args.store.now in
    let b = c.insert_integer.new.store in
    let d = c.insert_integer-2.new.store in
    let e = c.insert_integer-3.new.store in
    let f = c.insert_integer-4.new.store in
    let depth = integer_in a c.empty_map.new.self b _ _ _ (codes "depth") (to_z w64 (of_z w64 c.from.result)) (Ok c.in_ok-deep.deep) c.in_ok-empty.ensures.1 c.in_ok-deep.ensures in
    let lat = integer_in a b d _ _ _ (codes "lat") (to_z w64 (of_z w64 c.from-2.result)) (Ok c.in_ok-north.north) depth.1 c.in_ok-north.ensures in
    let lon = integer_in a d e _ _ _ (codes "lon") (to_z w64 (of_z w64 c.from-3.result)) (Ok c.in_ok-placed.placed) lat.1 c.in_ok-placed.ensures in
    let number = integer_in a e f _ _ _ (codes "number") (to_z w64 (of_z w64 c.from-4.result)) c.insert_integer-4.result lon.1 c.insert_integer-4.ensures in
    builds_as a f _ _ _ c.insert_integer-4.result
    (pot_made c.args.pot _ _ _ _
    (to_z-of_z {w = w64} (search rules) ∙ c.from.ensures)
    (to_z-of_z {w = w64} (search rules) ∙ c.from-2.ensures ∙ to_z-of_z {w = w32} (search rules))
    (to_z-of_z {w = w64} (search rules) ∙ c.from-3.ensures ∙ to_z-of_z {w = w32} (search rules))
    (to_z-of_z {w = w64} (search rules) ∙ c.from-4.ensures))
    number
