use Rattle.std.proofs.Common.{◌+◌, ◌*◌, take}
use Rattle.meaning.specs.Value.{list}
use Rattle.store.specs.Stores.{Added}
use Rattle.sources.specs.Pots.{pots_in}
use Rattle.sources.proofs.making.make_pots.Given as goal

-- the list of the pots so far
abbrev pub invariant-loop-bytes : goal.invariant-loop-bytes
invariant-loop-bytes l =
    Added l.fn.store l.store record { cells = 1 + 10 * l.bytes-index; bytes = 17 * l.bytes-index } (list (pots_in (take l.bytes-index l.records))) l.whole
