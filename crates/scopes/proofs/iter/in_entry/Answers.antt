use Rattle.std.proofs.Common.{sym, ap, ◌∙◌}
use Rattle.std.specs.Str.{bytes_eq as same_text}
use Rattle.reader.specs.Fields.{members_of}
use Rattle.store.specs.Cells.{at_span}
use Rattle.store.specs.Stores.{text_of}
use Rattle.scopes.specs.Searching.{first_text}
use Rattle.scopes.proofs.Turns.{same_entry, under_key_name, under_value_name}
use Rattle.scopes.proofs.iter.in_entry.Goals as goal

pub returns-then-eq : goal.returns-then-eq
returns-then-eq c = λ key item is outward.
    let s = c.args.store.now in
    let v = c.args.var.now in
    let name = first_text v in
    let key_name = c.args.key_name.now in
    let e = same_entry c.entry_at-entry.ensures.is is in
    under_key_name s c.key_string.new.store v.span v.source.now (members_of v.rest) outward (same_text name key_name) key
    (at_span (text_of s) c.entry_at-entry.result.key) _ _
    (ap (λ n. same_text n key_name) (sym c.name-name.ensures) ∙ sym c.eq.ensures ∙ c.if-eq.true) e.0 (c.key_string.ensures outward)

pub returns-then-eq-2 : goal.returns-then-eq-2
returns-then-eq-2 c = λ key item is outward.
    let s = c.args.store.now in
    let v = c.args.var.now in
    let name = first_text v in
    let key_name = c.args.key_name.now in
    let value_name = c.args.value_name.now in
    let e = same_entry c.entry_at-entry-then-eq-2.ensures.is is in
    under_value_name s v.span v.source.now (members_of v.rest) outward (same_text name key_name) (same_text name value_name) _ item _ _
    (ap (λ n. same_text n key_name) (sym c.name-name.ensures) ∙ sym c.eq.ensures ∙ c.if-eq.false)
    (ap (λ n. same_text n value_name) (sym c.name-name.ensures) ∙ sym c.eq-else-eq.ensures ∙ c.if-eq-2.true) e.1 c.lookup_path.ensures
