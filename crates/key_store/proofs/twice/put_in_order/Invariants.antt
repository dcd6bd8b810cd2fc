-- So many of them.
use Rattle.std.proofs.Common.{◌≡◌, map, take}
use Rattle.key_store.specs.Kept.{key_entry_of}
use Rattle.key_store.specs.Spans.{span_of}
use Rattle.key_store.proofs.twice.put_in_order.Given as goal

abbrev pub invariant-loop-entry : goal.invariant-loop-entry
invariant-loop-entry l = l.spans.items ≡ map span_of (map key_entry_of (take l.entry-index l.entries))
