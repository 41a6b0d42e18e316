use Rattle.std.proofs.Common.{sym, refl, ap, ◌∙◌}
use Rattle.meaning.specs.Fault.{fault_at}
use Rattle.meaning.specs.declared.fault.Cause.TheVariants.{NoSuchIndex, WrongAccess}
use Rattle.store.specs.Kinds.{byte_of, size_of}
use Rattle.store.specs.Stores.{value}
use Rattle.store.specs.Values.{part_of}
use Rattle.store.proofs.Lists.{kind_byte}
use Rattle.lookup.proofs.Walks.{index_list, index_other, tells_given, tells_as}
use Rattle.lookup.proofs.walking.by_index.Goals as goal

pub returns-in-List : goal.returns-in-List
returns-in-List c =
    let s = c.args.store.now in
    let m = c.args.member in
    let v = value s c.args.from in
    tells_as s
    (index_list m m.op v c.args.number (sym c.kind.ensures ∙ c.in-List.is))
    c.or_absent.ensures
    (tells_given s (part_of v c.args.number) c.part.result m.op m NoSuchIndex (size_of v) c.at-absent.result c.part.ensures
    (c.at-absent.ensures ∙ ap (fault_at NoSuchIndex m.span) c.size.ensures))

pub returns-in_default : goal.returns-in_default
returns-in_default c =
    let s = c.args.store.now in
    let m = c.args.member in
    let v = value s c.args.from in
    tells_as s
    (index_other m m.op v c.args.number (λ k. c.in_default.not-List (c.kind.ensures ∙ k)))
    refl
    (c.at.ensures ∙ ap (fault_at WrongAccess m.span) (c.byte.ensures ∙ ap byte_of c.kind.ensures ∙ kind_byte v))
