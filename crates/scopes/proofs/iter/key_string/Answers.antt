use Rattle.meaning.specs.Charge.{one_cell}
use Rattle.meaning.specs.Or.{gives}
use Rattle.meaning.specs.Value.{string}
use Rattle.reader.specs.Fields.{members_of}
use Rattle.store.specs.Cells.{at_span}
use Rattle.store.specs.Stores.{text_of}
use Rattle.scopes.proofs.Built.{made_builds}
use Rattle.scopes.proofs.Finds.{answers_as, none_further}
use Rattle.scopes.proofs.iter.key_string.Goals as goal

pub returns : goal.returns
returns c = λ outward.
    let s = c.args.store.now in
    let v = c.args.var.now in
    let key = string (at_span (text_of s) c.args.key) in
    answers_as _ _ _ outward _
    (none_further s v.source.now v.span _ (members_of v.rest) (gives (key, one_cell)) _ c.in_ok-no_further.ensures)
    (c.made_for.ensures s c.share.new.self one_cell key outward (made_builds s c.share.new.self one_cell key _ c.share.ensures))
