-- Those so far were read.
use Rattle.std.proofs.Common.{◌≡◌, map, take}
use Rattle.key_store.specs.Lists.{as_entry}
use Rattle.er_end_c.specs.Makings.{entry_shown}
use Rattle.er_end_c.proofs.makers.entries.Given as goal

abbrev pub invariant-loop-key : goal.invariant-loop-key
invariant-loop-key l = map as_entry l.entries.items ≡ map entry_shown (take l.key-index l.keys)
