use Rattle.std.proofs.Common.{sym, ap, ◌∙◌}
use Rattle.std.specs.Str.{bytes_eq as same_text}
use Rattle.reader.specs.Fields.{members_of}
use Rattle.store.specs.Stores.{value}
use Rattle.scopes.specs.Searching.{first_text}
use Rattle.scopes.proofs.Turns.{same_item, under_item_name}
use Rattle.scopes.proofs.iter.in_item.Goals as goal

pub returns-then-eq : goal.returns-then-eq
returns-then-eq c = λ item is outward.
    let s = c.args.store.now in
    let v = c.args.var.now in
    let name = first_text v in
    let item_name = c.args.item_name.now in
    under_item_name s v.span v.source.now (members_of v.rest) outward (same_text name item_name) item (value s c.item_at-item.result) _
    (ap (λ n. same_text n item_name) (sym c.name.ensures) ∙ sym c.eq.ensures ∙ c.if-eq.true)
    (same_item c.item_at-item.ensures.is is)
    c.lookup_path.ensures
