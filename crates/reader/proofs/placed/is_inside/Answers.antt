use Rattle.std.proofs.Common.{◌∙◌, arith}
use Rattle.reader.proofs.Spans.{reversed, starts_inside, ends_decide}
use Rattle.reader.proofs.placed.is_inside.Goals as goal

pub returns-then-span : goal.returns-then-span
returns-then-span c = reversed c.args.source.now c.args.span.start c.args.span.end (omega arith)

pub returns-then-not-is_between_characters : goal.returns-then-not-is_between_characters
returns-then-not-is_between_characters c =
    starts_inside c.args.source.now c.args.span.start c.args.span.end (omega arith) c.if-not-is_between_characters.ensures

pub returns : goal.returns
returns c =
    c.is_between_characters-2.ensures
    ∙ ends_decide c.args.source.now c.args.span.start c.args.span.end (omega arith) c.if-not-is_between_characters.ensures
