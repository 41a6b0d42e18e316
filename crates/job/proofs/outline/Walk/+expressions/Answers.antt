use Rattle.std.proofs.Common.{◌≡◌, suc, ◌+◌, ◌-◌, ◌≤◌, length, codes, sym, ap, ◌∙◌, subst, arith, length-append}
use Rattle.meaning.specs.Tree.{String}
use Rattle.packing.specs.Packing.{pack_base, pack_args, pack_pairs, pack_string}
use Rattle.reader.specs.Heads.{BaseOf, FilterHead, VariableHead, LiteralHead, ListHead, EmptyMapHead, MapHead, ParenHead, CallHead}
use Rattle.reader.specs.Fields.{members_of, text_of}
use Rattle.reader.specs.Meanings.{base_of, expr_of}
use Rattle.checker.specs.There.{Stands}
use Rattle.checker.proofs.Walking.{expr_known, base_known, base_headed, string_known, string_headed, args_parts, pairs_parts}
use Rattle.job.specs.Lines.{members_line, string_line}
use Rattle.job.specs.Outline.{outline_base}
use Rattle.job.proofs.Arms.{outlined_end, outlined_then, base_there, expr_next, behind_arm, base_arm, filter_arm}
use Rattle.job.proofs.Rows.{args_more, args_all, pairs_more, pairs_all, string_some}
use Rattle.job.proofs.Writing.{adds_nothing, then_adds, adds_same}
use Rattle.job.proofs.outline.Walk.+expressions.Goals as goal

pub expr-unreachable-requires : goal.expr-unreachable-requires
expr-unreachable-requires t c =
    expr_known c.args.self.now.source.now c.args.self.now.tree.now c.args.pos c.args.self.now.source_short c.requires.there c.in_default.ensures.same

pub expr-behind-requires : goal.expr-behind-requires
expr-behind-requires t c =
    let moves = c.in-Some.ensures.moves in
    let next = expr_next c.args.self.now.source_short c.requires.there _ _ moves.1 c.in-Some.ensures.same (BaseOf (base_of c.in-Base.base)) (ap expr_of c.in-Base.is) in
    let parts = next.1 in
    (omega arith, (omega arith, record { base = parts.0; headed = parts.2; fits = parts.3; stands = parts.4 }))

pub expr-expr-requires : goal.expr-expr-requires
expr-expr-requires t c =
    let moves = c.in-Some.ensures.moves in
    let next = expr_next c.args.self.now.source_short c.requires.there _ _ moves.1 c.in-Some.ensures.same (FilterHead c.in-Filter.name c.in-Filter.whole c.in-Filter.count) (ap expr_of c.in-Filter.is) in
    let parts = next.1 in
    (omega arith, (omega arith, record { expr = parts.0; fits = parts.6; stands = parts.8.0 }))

pub expr-bases-requires : goal.expr-bases-requires
expr-bases-requires t c =
    let moves = c.in-Some.ensures.moves in
    let next = expr_next c.args.self.now.source_short c.requires.there _ _ moves.1 c.in-Some.ensures.same (FilterHead c.in-Filter.name c.in-Filter.whole c.in-Filter.count) (ap expr_of c.in-Filter.is) in
    let parts = next.1 in
    let moved = (c.in_ok-after-in-Filter.ensures (record { expr = parts.0; fits = parts.6; stands = parts.8.0 })).ends in
    (omega arith, (omega arith, record { args = parts.1; counted = parts.5; fits = parts.7; stands = subst (λ k. Stands c.args.self.now.tree.now k (pack_args parts.1)) (sym moved) parts.8.1 }))

pub expr-returns-in-Base : goal.expr-returns-in-Base
expr-returns-in-Base t c =
    λ w.
    let next = expr_next c.args.self.now.source_short w _ _ c.in-Some.ensures.moves.1 c.in-Some.ensures.same (BaseOf (base_of c.in-Base.base)) (ap expr_of c.in-Base.is) in
    let parts = next.1 in
    base_arm c.args.self.now.source.now c.args.depth _ _ _ w.expr parts.0 c.in-Some.next _ parts.1 next.0
    (c.behind.ensures (record { base = parts.0; headed = parts.2; fits = parts.3; stands = parts.4 }))

pub expr-returns-in_ok-after-in-Filter : goal.expr-returns-in_ok-after-in-Filter
expr-returns-in_ok-after-in-Filter t c =
    λ w.
    let next = expr_next c.args.self.now.source_short w _ _ c.in-Some.ensures.moves.1 c.in-Some.ensures.same (FilterHead c.in-Filter.name c.in-Filter.whole c.in-Filter.count) (ap expr_of c.in-Filter.is) in
    let parts = next.1 in
    let first = c.in_ok-after-in-Filter.ensures (record { expr = parts.0; fits = parts.6; stands = parts.8.0 }) in
    let moved = first.ends in
    filter_arm c.args.self.now.source.now c.args.depth _ _ _ w.expr parts.0 parts.1 _ _ c.in-Some.next c.in_ok-after-in-Filter.after _ _ _ parts.2 next.0 c.in_ok-put_spans_line-in-Filter.ensures.adds first
    (c.bases.ensures (record { args = parts.1; counted = parts.5; fits = parts.7; stands = subst (λ k. Stands c.args.self.now.tree.now k (pack_args parts.1)) (sym moved) parts.8.1 }))

pub base-unreachable-requires : goal.base-unreachable-requires
base-unreachable-requires t c =
    base_known c.args.self.now.source.now c.args.self.now.tree.now c.args.pos c.args.self.now.source_short c.requires.there c.in_default.ensures.same

pub base-behind-requires : goal.base-behind-requires
base-behind-requires t c =
    let moves = c.in-Some.ensures.moves in
    let headed = base_headed c.args.self.now.source.now c.args.self.now.tree.now c.args.pos c.args.self.now.source_short c.requires.there _ _ moves.1 c.in-Some.ensures.same in
    (omega arith, (omega arith, record { base = c.requires.there.base; headed = sym headed.head; fits = c.requires.there.fits; stands = headed.stands }))

pub base-returns : goal.base-returns
base-returns t c =
    λ w.
    let moves = c.in-Some.ensures.moves in
    let headed = base_headed c.args.self.now.source.now c.args.self.now.tree.now c.args.pos c.args.self.now.source_short w _ _ moves.1 c.in-Some.ensures.same in
    outlined_end _ headed.ends (c.behind.ensures (record { base = w.base; headed = sym headed.head; fits = w.fits; stands = headed.stands }))

pub behind-value-requires : goal.behind-value-requires
behind-value-requires t c =
    let parts = base_there c.requires.there (LiteralHead c.in-Literal.span) (ap base_of c.in-Literal.is) in
    record { value = parts.0; simple = parts.3; fits = parts.4; stands = parts.5 }

pub behind-bases-requires : goal.behind-bases-requires
behind-bases-requires t c =
    let parts = base_there c.requires.there (ListHead c.in-List.span c.in-List.count) (ap base_of c.in-List.is) in
    (omega arith, (omega arith, record { args = parts.0; counted = parts.3; fits = parts.4; stands = parts.5 }))

pub behind-base-requires : goal.behind-base-requires
behind-base-requires t c =
    let parts = base_there c.requires.there (MapHead c.in-Map.span (text_of c.in-Map.key) c.in-Map.more) (ap base_of c.in-Map.is) in
    (omega arith, (omega arith, record { base = parts.0; fits = parts.6; stands = parts.8.0 }))

pub behind-pairs-requires : goal.behind-pairs-requires
behind-pairs-requires t c =
    let parts = base_there c.requires.there (MapHead c.in-Map.span (text_of c.in-Map.key) c.in-Map.more) (ap base_of c.in-Map.is) in
    let moved = (c.in_ok-after-in-Map.ensures (record { base = parts.0; fits = parts.6; stands = parts.8.0 })).ends in
    (omega arith, (omega arith, record { pairs = parts.1; counted = parts.5; fits = parts.7; stands = subst (λ k. Stands c.args.self.now.tree.now k (pack_pairs parts.1)) (sym moved) parts.8.1 }))

pub behind-expr-requires : goal.behind-expr-requires
behind-expr-requires t c =
    let parts = base_there c.requires.there (ParenHead c.in-Paren.span) (ap base_of c.in-Paren.is) in
    (omega arith, (omega arith, record { expr = parts.0; fits = parts.3; stands = parts.4 }))

pub behind-bases-requires-in-Call : goal.behind-bases-requires-in-Call
behind-bases-requires-in-Call t c =
    let parts = base_there c.requires.there (CallHead c.in-Call.name c.in-Call.whole c.in-Call.count) (ap base_of c.in-Call.is) in
    (omega arith, (omega arith, record { args = parts.0; counted = parts.4; fits = parts.5; stands = parts.6 }))

pub behind-returns-in_ok-put_members_line-in-Variable : goal.behind-returns-in_ok-put_members_line-in-Variable
unfolding outline_base
behind-returns-in_ok-put_members_line-in-Variable t c = λ w.
    let parts = base_there w (VariableHead (members_of c.in-Variable.members)) (ap base_of c.in-Variable.is) in
    behind_arm c.args.self.now.source.now c.args.depth _ _ _ c.args.pos w.base _ parts.1
    (record { wrote = record { adds = adds_same (ap (λ ms. members_line c.args.self.now.source.now c.args.depth ms) (sym parts.2)) c.in_ok-put_members_line-in-Variable.ensures.adds }; ends = omega arith })

pub behind-returns-in_ok-put_span_line-in-Literal : goal.behind-returns-in_ok-put_span_line-in-Literal
unfolding outline_base
behind-returns-in_ok-put_span_line-in-Literal t c = λ w.
    let parts = base_there w (LiteralHead c.in-Literal.span) (ap base_of c.in-Literal.is) in
    behind_arm c.args.self.now.source.now c.args.depth _ _ _ c.args.pos w.base _ parts.1
    (outlined_then _ c.in_ok-put_span_line-in-Literal.ensures.adds (c.value.ensures (record { value = parts.0; simple = parts.3; fits = parts.4; stands = parts.5 })))

pub behind-returns-in_ok-put_span_line-in-List : goal.behind-returns-in_ok-put_span_line-in-List
unfolding outline_base
behind-returns-in_ok-put_span_line-in-List t c = λ w.
    let parts = base_there w (ListHead c.in-List.span c.in-List.count) (ap base_of c.in-List.is) in
    behind_arm c.args.self.now.source.now c.args.depth _ _ _ c.args.pos w.base _ parts.1
    (outlined_then _ c.in_ok-put_span_line-in-List.ensures.adds (c.bases.ensures (record { args = parts.0; counted = parts.3; fits = parts.4; stands = parts.5 })))

pub behind-returns-in_ok-put_span_line-in-EmptyMap : goal.behind-returns-in_ok-put_span_line-in-EmptyMap
unfolding outline_base
behind-returns-in_ok-put_span_line-in-EmptyMap t c = λ w.
    let parts = base_there w (EmptyMapHead c.in-EmptyMap.span) (ap base_of c.in-EmptyMap.is) in
    behind_arm c.args.self.now.source.now c.args.depth _ _ _ c.args.pos w.base _ parts.0
    (record { wrote = record { adds = then_adds c.in_ok-put_span_line-in-EmptyMap.ensures.adds adds_nothing }; ends = omega arith })

pub behind-returns-in_ok-after-in-Map : goal.behind-returns-in_ok-after-in-Map
unfolding outline_base
behind-returns-in_ok-after-in-Map t c = λ w.
    let parts = base_there w (MapHead c.in-Map.span (text_of c.in-Map.key) c.in-Map.more) (ap base_of c.in-Map.is) in
    let first = c.in_ok-after-in-Map.ensures (record { base = parts.0; fits = parts.6; stands = parts.8.0 }) in
    let moved = first.ends in
    let size = length-append (pack_base parts.0) (pack_pairs parts.1) in
    behind_arm c.args.self.now.source.now c.args.depth _ _ _ c.args.pos w.base _ parts.2
    (outlined_end _ (omega arith)
    (outlined_then _ c.in_ok-put_span_line-in-Map.ensures.adds
    (outlined_then _ (then_adds c.in_ok-put_string_line-in-Map.ensures.adds first.wrote.adds)
    (c.pairs.ensures (record { pairs = parts.1; counted = parts.5; fits = parts.7; stands = subst (λ k. Stands c.args.self.now.tree.now k (pack_pairs parts.1)) (sym moved) parts.8.1 })))))

pub behind-returns-in_ok-put_span_line-in-Paren : goal.behind-returns-in_ok-put_span_line-in-Paren
unfolding outline_base
behind-returns-in_ok-put_span_line-in-Paren t c = λ w.
    let parts = base_there w (ParenHead c.in-Paren.span) (ap base_of c.in-Paren.is) in
    behind_arm c.args.self.now.source.now c.args.depth _ _ _ c.args.pos w.base _ parts.1
    (outlined_then _ c.in_ok-put_span_line-in-Paren.ensures.adds (c.expr.ensures (record { expr = parts.0; fits = parts.3; stands = parts.4 })))

pub behind-returns-in_ok-put_spans_line-in-Call : goal.behind-returns-in_ok-put_spans_line-in-Call
unfolding outline_base
behind-returns-in_ok-put_spans_line-in-Call t c = λ w.
    let parts = base_there w (CallHead c.in-Call.name c.in-Call.whole c.in-Call.count) (ap base_of c.in-Call.is) in
    behind_arm c.args.self.now.source.now c.args.depth _ _ _ c.args.pos w.base _ parts.1
    (outlined_then _ c.in_ok-put_spans_line-in-Call.ensures.adds (c.bases-in-Call.ensures (record { args = parts.0; counted = parts.4; fits = parts.5; stands = parts.6 })))

pub bases-base-requires : goal.bases-base-requires
bases-base-requires t c =
    let count = c.args.count in
    let one : count - c.loop-arg._arg ≡ suc (count - (c.loop-arg._arg + 1)) = omega arith in
    let left = c.loop-arg.invariant.1 c.requires.there in
    let parts = args_parts c.args.self.now.source.now c.args.self.now.tree.now c.loop-arg.at left.rest (count - (c.loop-arg._arg + 1)) (left.counted ∙ one) left.fits left.stands in
    (omega arith, (omega arith, record { base = parts.0; fits = parts.4; stands = parts.6.0 }))

pub bases-loop-arg-preserved : goal.bases-loop-arg-preserved
bases-loop-arg-preserved t c =
    let count = c.args.count in
    let one : count - c.loop-arg._arg ≡ suc (count - (c.loop-arg._arg + 1)) = omega arith in
    let left = c.loop-arg.invariant.1 c.requires.there in
    let parts = args_parts c.args.self.now.source.now c.args.self.now.tree.now c.loop-arg.at left.rest (count - (c.loop-arg._arg + 1)) (left.counted ∙ one) left.fits left.stands in
    let moved = (c.in_ok-at.ensures (record { base = parts.0; fits = parts.4; stands = parts.6.0 })).ends in (
      omega arith,
      λ w.
          let count = c.args.count in
          let one : count - c.loop-arg._arg ≡ suc (count - (c.loop-arg._arg + 1)) = omega arith in
          let left = c.loop-arg.invariant.1 w in
          let parts = args_parts c.args.self.now.source.now c.args.self.now.tree.now c.loop-arg.at left.rest (count - (c.loop-arg._arg + 1)) (left.counted ∙ one) left.fits left.stands in
          let done = c.in_ok-at.ensures (record { base = parts.0; fits = parts.4; stands = parts.6.0 }) in
          args_more c.args.self.now.source.now c.args.self.now.tree.now c.args.depth _ _ w.args _ _ c.loop-arg.at _ _ _ one left parts done.ends done.wrote.adds,
    )

pub bases-returns : goal.bases-returns
bases-returns t c =
    λ w.
    let none : c.args.count - c.loop-arg._arg ≡ 0 = omega arith in
    let all = args_all c.args.self.now.source.now c.args.self.now.tree.now c.args.depth _ _ w.args _ _ _ none (c.loop-arg.invariant.1 w) in
    record { wrote = record { adds = all.1 }; ends = all.0 }

pub pairs-unreachable-requires : goal.pairs-unreachable-requires
pairs-unreachable-requires t c =
    let count = c.args.count in
    let one : count - c.loop-pair._pair ≡ suc (count - (c.loop-pair._pair + 1)) = omega arith in
    let left = c.loop-pair.invariant.1 c.requires.there in
    let parts = pairs_parts c.args.self.now.source.now c.args.self.now.tree.now c.loop-pair.at left.rest (count - (c.loop-pair._pair + 1)) (left.counted ∙ one) left.fits left.stands in
    string_known c.args.self.now.source.now c.args.self.now.tree.now c.loop-pair.at c.args.self.now.source_short parts.0 parts.5 parts.8 c.in_default.ensures.same

pub pairs-base-requires : goal.pairs-base-requires
pairs-base-requires t c =
    let count = c.args.count in
    let one : count - c.loop-pair._pair ≡ suc (count - (c.loop-pair._pair + 1)) = omega arith in
    let left = c.loop-pair.invariant.1 c.requires.there in
    let parts = pairs_parts c.args.self.now.source.now c.args.self.now.tree.now c.loop-pair.at left.rest (count - (c.loop-pair._pair + 1)) (left.counted ∙ one) left.fits left.stands in
    let inside = c.in-Some.ensures.moves in
    let headed = string_headed c.args.self.now.source.now c.args.self.now.tree.now c.loop-pair.at c.args.self.now.source_short parts.0 parts.5 parts.8 c.in-Some.key c.in-Some.next inside.1 c.in-Some.ensures.same in
    let ends = headed.ends in
    let next : c.in-Some.next ≡ c.loop-pair.at + length (pack_string parts.0) = omega arith in
    let some : 1 ≤ length (pack_string parts.0) = string_some parts.0 in
    (omega arith, (omega arith, record { base = parts.1; fits = parts.6; stands = subst (λ k. Stands c.args.self.now.tree.now k (pack_base parts.1)) (sym next) parts.9.0 }))

pub pairs-loop-pair-preserved : goal.pairs-loop-pair-preserved
pairs-loop-pair-preserved t c =
    let count = c.args.count in
    let one : count - c.loop-pair._pair ≡ suc (count - (c.loop-pair._pair + 1)) = omega arith in
    let left = c.loop-pair.invariant.1 c.requires.there in
    let parts = pairs_parts c.args.self.now.source.now c.args.self.now.tree.now c.loop-pair.at left.rest (count - (c.loop-pair._pair + 1)) (left.counted ∙ one) left.fits left.stands in
    let inside = c.in-Some.ensures.moves in
    let headed = string_headed c.args.self.now.source.now c.args.self.now.tree.now c.loop-pair.at c.args.self.now.source_short parts.0 parts.5 parts.8 c.in-Some.key c.in-Some.next inside.1 c.in-Some.ensures.same in
    let ends = headed.ends in
    let next : c.in-Some.next ≡ c.loop-pair.at + length (pack_string parts.0) = omega arith in
    let moved = (c.in_ok-at.ensures (record { base = parts.1; fits = parts.6; stands = subst (λ k. Stands c.args.self.now.tree.now k (pack_base parts.1)) (sym next) parts.9.0 })).ends in (
      omega arith,
      λ w.
          let count = c.args.count in
          let one : count - c.loop-pair._pair ≡ suc (count - (c.loop-pair._pair + 1)) = omega arith in
          let left = c.loop-pair.invariant.1 w in
          let parts = pairs_parts c.args.self.now.source.now c.args.self.now.tree.now c.loop-pair.at left.rest (count - (c.loop-pair._pair + 1)) (left.counted ∙ one) left.fits left.stands in
          let inside = c.in-Some.ensures.moves in
          let headed = string_headed c.args.self.now.source.now c.args.self.now.tree.now c.loop-pair.at c.args.self.now.source_short parts.0 parts.5 parts.8 c.in-Some.key c.in-Some.next inside.1 c.in-Some.ensures.same in
          let ends = headed.ends in
          let next : c.in-Some.next ≡ c.loop-pair.at + length (pack_string parts.0) = omega arith in
          let done = c.in_ok-at.ensures (record { base = parts.1; fits = parts.6; stands = subst (λ k. Stands c.args.self.now.tree.now k (pack_base parts.1)) (sym next) parts.9.0 }) in
          let after = done.ends in
          pairs_more c.args.self.now.source.now c.args.self.now.tree.now c.args.depth _ _ w.pairs _ _ c.loop-pair.at _ _ _ _ one left parts (omega arith)
          (adds_same (ap (λ (k : String). string_line c.args.self.now.source.now c.args.depth (codes "key") k) headed.head) c.in_ok-put_string_line.ensures.adds)
          done.wrote.adds,
    )

pub pairs-returns : goal.pairs-returns
pairs-returns t c =
    λ w.
    let none : c.args.count - c.loop-pair._pair ≡ 0 = omega arith in
    let all = pairs_all c.args.self.now.source.now c.args.self.now.tree.now c.args.depth _ _ w.pairs _ _ _ none (c.loop-pair.invariant.1 w) in
    record { wrote = record { adds = all.1 }; ends = all.0 }
