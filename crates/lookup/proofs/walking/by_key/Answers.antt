use Rattle.std.proofs.Common.{sym, refl, ap, ◌∙◌}
use Rattle.meaning.specs.Fault.{fault_at}
use Rattle.meaning.specs.declared.fault.Cause.TheVariants.{NoSuchKey, WrongAccess}
use Rattle.store.specs.Kinds.{byte_of}
use Rattle.store.specs.Stores.{value}
use Rattle.store.specs.Values.{entry_in}
use Rattle.store.proofs.Lists.{kind_byte}
use Rattle.lookup.proofs.Walks.{key_map, key_other, tells_given, tells_as}
use Rattle.lookup.proofs.walking.by_key.Goals as goal

pub returns-in-Map : goal.returns-in-Map
returns-in-Map c =
    let s = c.args.store.now in
    let m = c.args.member in
    let v = value s c.args.from in
    let key = c.args.key.now in
    tells_as s
    (key_map m m.op v key (sym c.kind.ensures ∙ c.in-Map.is))
    c.or_absent.ensures
    (tells_given s (entry_in v key) c.value_of.result m.op m NoSuchKey 0 c.at-absent.result c.value_of.ensures c.at-absent.ensures)

pub returns-in_default : goal.returns-in_default
returns-in_default c =
    let s = c.args.store.now in
    let m = c.args.member in
    let v = value s c.args.from in
    tells_as s
    (key_other m m.op v c.args.key.now (λ k. c.in_default.not-Map (c.kind.ensures ∙ k)))
    refl
    (c.at.ensures ∙ ap (fault_at WrongAccess m.span) (c.byte.ensures ∙ ap byte_of c.kind.ensures ∙ kind_byte v))
