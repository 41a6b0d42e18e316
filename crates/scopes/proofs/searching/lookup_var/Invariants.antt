use Rattle.std.proofs.Common.{◌≡◌, drop}
use Rattle.stack.specs.Entries.{entries}
use Rattle.templates.specs.Held.{templates_of}
use Rattle.scopes.proofs.Stacks.{found_in}
use Rattle.scopes.proofs.searching.lookup_var.Given as goal

-- nothing was made, and what is left finds what the whole does
abbrev pub invariant-loop-depth : goal.invariant-loop-depth
invariant-loop-depth g l =
    (l.store ≡ l.fn.store)
    × (found_in (templates_of l.templates) l.fn.store (g.S.ValueSource.valued l.value_source) l.var (drop l.depth (entries l.scopes))
    ≡ found_in (templates_of l.templates) l.fn.store (g.S.ValueSource.valued l.value_source) l.var (entries l.scopes))
