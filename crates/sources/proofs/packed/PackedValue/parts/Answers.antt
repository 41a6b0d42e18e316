use Rattle.std.proofs.Common.{◌≡◌, true, drop, sym, ap, ◌∙◌, arith}
use Rattle.store.specs.Kinds.{byte_of}
use Rattle.packing.specs.Limits.{no_key}
use Rattle.packing.specs.Unpacking.{entries, items, value_within}
use Rattle.sources.proofs.PackedValues.{no_byte, no_list, no_map, list_uncounted, list_not_deep, list_parts, map_uncounted, map_not_deep, map_parts, tail_is}
use Rattle.sources.proofs.packed.PackedValue.parts.Goals as goal

pub returns-in_err-byte-clause-items : goal.returns-in_err-byte-clause-items
returns-in_err-byte-clause-items c is v stands = absurd (no_byte c.args.self.bytes.now c.args.self.levels v stands.0 stands.1 c.in_err-byte.ensures.same)

pub returns-in_err-byte-clause-entries : goal.returns-in_err-byte-clause-entries
returns-in_err-byte-clause-entries c is v stands = absurd (no_byte c.args.self.bytes.now c.args.self.levels v stands.0 stands.1 c.in_err-byte.ensures.same)

pub returns-then-byte-clause-items : goal.returns-then-byte-clause-items
returns-then-byte-clause-items c is v stands =
    no_list c.args.self.bytes.now c.args.self.levels v stands.0 stands.1 c.in_ok-byte.byte c.in_ok-byte.next c.in_ok-byte.ensures.same
    (λ b. c.if-byte.true (b ∙ sym (c.byte.ensures ∙ ap byte_of is)))

pub returns-then-byte-clause-entries : goal.returns-then-byte-clause-entries
returns-then-byte-clause-entries c is v stands =
    no_map c.args.self.bytes.now c.args.self.levels v stands.0 stands.1 c.in_ok-byte.byte c.in_ok-byte.next c.in_ok-byte.ensures.same
    (λ b. c.if-byte.true (b ∙ sym (c.byte.ensures ∙ ap byte_of is)))

pub returns-in_err-count-clause-items : goal.returns-in_err-count-clause-items
returns-in_err-count-clause-items c is v stands =
    absurd (list_uncounted c.args.self.bytes.now c.args.self.levels v stands.0 stands.1 c.in_ok-byte.byte c.in_ok-byte.next c.in_ok-byte.ensures.same
    (c.if-byte.false ∙ c.byte.ensures ∙ ap byte_of is) c.in_err-count.ensures.same)

pub returns-in_err-count-clause-entries : goal.returns-in_err-count-clause-entries
returns-in_err-count-clause-entries c is v stands =
    absurd (map_uncounted c.args.self.bytes.now c.args.self.levels v stands.0 stands.1 c.in_ok-byte.byte c.in_ok-byte.next c.in_ok-byte.ensures.same
    (c.if-byte.false ∙ c.byte.ensures ∙ ap byte_of is) c.in_err-count.ensures.same)

pub returns-in_err-levels-clause-items : goal.returns-in_err-levels-clause-items
returns-in_err-levels-clause-items c is v stands =
    absurd (list_not_deep c.args.self.bytes.now c.args.self.levels v stands.0 stands.1 c.in_ok-byte.byte c.in_ok-byte.next c.in_ok-byte.ensures.same
    (c.if-byte.false ∙ c.byte.ensures ∙ ap byte_of is) _ _ c.in_ok-count.ensures.same (omega (arith, c.in_err-levels.ensures)))

pub returns-in_err-levels-clause-entries : goal.returns-in_err-levels-clause-entries
returns-in_err-levels-clause-entries c is v stands =
    absurd (map_not_deep c.args.self.bytes.now c.args.self.levels v stands.0 stands.1 c.in_ok-byte.byte c.in_ok-byte.next c.in_ok-byte.ensures.same
    (c.if-byte.false ∙ c.byte.ensures ∙ ap byte_of is) _ _ c.in_ok-count.ensures.same (omega (arith, c.in_err-levels.ensures)))

pub returns-clause-items : goal.returns-clause-items
returns-clause-items c is v stands =
    let less = c.in_ok-levels.ensures in
    let p = list_parts c.args.self.bytes.now c.args.self.levels v stands.0 stands.1 c.in_ok-byte.byte c.in_ok-byte.next c.in_ok-byte.ensures.same
    (c.if-byte.false ∙ c.byte.ensures ∙ ap byte_of is) _ _ c.in_ok-count.ensures.same c.in_ok-levels.levels (omega arith) in
    let here : c.in_ok-bytes.bytes.now ≡ drop c.in_ok-count.first c.args.self.bytes.now = c.in_ok-bytes.ensures.lookup.0.2 ∙ tail_is c.args.self.bytes.now c.in_ok-count.first in
    (p.0, p.1, (p.2.0, ap (items (value_within c.in_ok-levels.levels) c.in_ok-count.count) here ∙ p.2.1))

pub returns-clause-entries : goal.returns-clause-entries
returns-clause-entries c is v stands =
    let less = c.in_ok-levels.ensures in
    let p = map_parts c.args.self.bytes.now c.args.self.levels v stands.0 stands.1 c.in_ok-byte.byte c.in_ok-byte.next c.in_ok-byte.ensures.same
    (c.if-byte.false ∙ c.byte.ensures ∙ ap byte_of is) _ _ c.in_ok-count.ensures.same c.in_ok-levels.levels (omega arith) in
    let here : c.in_ok-bytes.bytes.now ≡ drop c.in_ok-count.first c.args.self.bytes.now = c.in_ok-bytes.ensures.lookup.0.2 ∙ tail_is c.args.self.bytes.now c.in_ok-count.first in
    (p.0, p.1, (_, no_key, p.2.0, ap (entries _ true (value_within c.in_ok-levels.levels) c.in_ok-count.count no_key) here ∙ p.2.1))
