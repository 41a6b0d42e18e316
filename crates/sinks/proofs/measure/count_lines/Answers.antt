use Rattle.std.proofs.Common.{◌≡◌, ◌≤◌, ◌<◌, ◌^◌, ◌∙◌, length, subst, sym, rules, arith}
use Rattle.std.specs.List.{fold}
use Rattle.meaning.specs.Sinks.{line_feeds}
use Rattle.sinks.proofs.Feeds.{one_more, counted, few_feeds}
use Rattle.sinks.proofs.measure.count_lines.Goals as goal

feeds : (c : goal.After-fold) → c.fold.result ≡ line_feeds c.args.piece.now
feeds c =
    let folded : c.fold.result ≡ fold one_more 0 c.args.piece.now = search rules in
    let short : length c.args.piece.now < 2 ^ 64 = search rules in
    let sum = counted 0 c.args.piece.now (omega (arith, short)) in
    omega (arith, folded, sum)

pub returns-clause-counts : goal.returns-clause-counts
returns-clause-counts c = feeds c

pub returns-clause-within : goal.returns-clause-within
returns-clause-within c = subst (λ n. n ≤ length c.args.piece.now) (sym (feeds c)) (few_feeds c.args.piece.now)
