-- What was due so far was printed.
use Rattle.std.proofs.Common.{◌≡◌, false, length}
use Rattle.relay_loop.specs.WaySteps.{PrintsGiven}
use Rattle.relay_loop.proofs.way.Way.print_due.Given as goal

abbrev pub invariant-loop-at : goal.invariant-loop-at
invariant-loop-at l = record { alive : l.self.lost ≡ false; prints : PrintsGiven l.at l.fn.self l.self l.fn.lines.items l.lines.items }

abbrev pub decreases-loop-at : goal.decreases-loop-at
decreases-loop-at l = length l.self.waits.items
