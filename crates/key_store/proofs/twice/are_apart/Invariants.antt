-- None so far runs into the next one.
use Rattle.std.proofs.Common.{◌≡◌, drop}
use Rattle.key_store.specs.Spans.{apart_behind, are_apart}
use Rattle.key_store.proofs.twice.are_apart.Given as goal

abbrev pub invariant-loop-next : goal.invariant-loop-next
invariant-loop-next l = apart_behind l.before (drop l.next-index l.rest) ≡ are_apart l.spans
