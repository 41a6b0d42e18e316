use Rattle.std.proofs.Common.{◌≡◌, sym, subst, rules}
use borrow.Author.Tests.{tests}
use Rattle.std.specs.Prelude.{position}
use Rattle.std.proofs.lemmas.Iterator.{YieldsList-from_slice}
use Rattle.std.proofs.lemmas.Iterator.Search.{position_from_yields_List}
use Rattle.templates.specs.Entries.{Located}
use Rattle.templates.proofs.Found.{has, located}
use Rattle.templates.proofs.lookup.index_of.Goals as goal

pub returns : goal.returns
returns c =
    let name = c.args.name.now in
    let entries = c.args.entries.now in
    let found : c.position.result ≡ position (has name) entries =
    position_from_yields_List (has name) _ _ c.position.result c.position.ensures.ran (YieldsList-from_slice _ c.iter.ensures.rest) (λ x b q k. search (rules, tests)) in
    subst (Located name entries) (sym found) (located name entries)
