use Rattle.std.proofs.Common.{refl, sym, ap, ◌∙◌, codes}
use Rattle.std.specs.Str.{bytes_eq as same_text}
use Rattle.meaning.specs.Spans.{text_at}
use Rattle.store.specs.Stores.{value}
use Rattle.templates.specs.Held.{templates_of}
use Rattle.scopes.specs.Entries.{source_at, turns_over}
use Rattle.scopes.proofs.Turns.{not_begun, seen_by_index, seen_loop, seen_item, seen_entry}
use Rattle.scopes.proofs.iter.in_loop.Goals as goal

pub returns-in_default : goal.returns-in_default
returns-in_default c = λ outer.
    let l = c.args.state in
    (not_begun c.args.var.now outer l.next (turns_over (source_at (templates_of c.args.templates.now) l.template) l.vars (value c.args.store.now l.iterable)) (rw c.in_default.is at c.turn.ensures), refl)

pub returns-in_default-access : goal.returns-in_default-access
returns-in_default-access c = λ outer.
    let s = c.args.store.now in
    let l = c.args.state in (
      seen_by_index s s c.args.var.now outer (source_at (templates_of c.args.templates.now) l.template) (value s l.iterable) l.next c.in-Some.turn c.in-Some.ensures.0 c.in-Some.ensures.1
          c.requires.within l.vars c.requires.kind c.in_default-access.field-0 c.in_default-access.field-1 c.in_default-access.is,
      refl,
    )

pub returns-then-eq : goal.returns-then-eq
returns-then-eq c = λ outer.
    let s = c.args.store.now in
    let l = c.args.state in
    seen_loop s c.lookup_loop.new.store c.args.var.now outer (source_at (templates_of c.args.templates.now) l.template) (value s l.iterable) l.next c.in-Some.turn c.in-Some.ensures.0 c.in-Some.ensures.1
    c.requires.within l.vars c.requires.kind _ c.in-Key.is _ (ap (λ n. same_text n (codes "loop")) (sym c.name.ensures) ∙ sym c.eq.ensures) c.if-eq.true _ c.lookup_loop.ensures

pub returns-in-Item : goal.returns-in-Item
returns-in-Item c = λ outer.
    let s = c.args.store.now in
    let l = c.args.state in
    seen_item s s c.args.var.now outer (source_at (templates_of c.args.templates.now) l.template) (value s l.iterable) l.next c.in-Some.turn c.in-Some.ensures.0 c.in-Some.ensures.1
    c.requires.within l.vars c.requires.kind _ c.in-Key.is _ (ap (λ n. same_text n (codes "loop")) (sym c.name.ensures) ∙ sym c.eq.ensures) c.if-eq.false _ c.in-Item.item _ c.in-Item.is
    (c.text_under-item_name.ensures ∙ ap (λ source. text_at source c.in-Item.item) c.source-source.ensures) c.in_item.ensures

pub returns-in-KeyValue : goal.returns-in-KeyValue
returns-in-KeyValue c = λ outer.
    let s = c.args.store.now in
    let l = c.args.state in
    seen_entry s c.in_entry.new.store c.args.var.now outer (source_at (templates_of c.args.templates.now) l.template) (value s l.iterable) l.next c.in-Some.turn c.in-Some.ensures.0 c.in-Some.ensures.1
    c.requires.within l.vars c.requires.kind _ c.in-Key.is _ (ap (λ n. same_text n (codes "loop")) (sym c.name.ensures) ∙ sym c.eq.ensures) c.if-eq.false _ c.in-KeyValue.key c.in-KeyValue.value c.in-KeyValue.field-2 _ _ c.in-KeyValue.is
    (c.text_under-key_name.ensures ∙ ap (λ source. text_at source c.in-KeyValue.key) c.source-source.ensures)
    (c.text_under-value_name.ensures ∙ ap (λ source. text_at source c.in-KeyValue.value) c.source-source.ensures) c.in_entry.ensures
