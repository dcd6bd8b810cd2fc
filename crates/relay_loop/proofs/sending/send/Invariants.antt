-- Writes so far were done, and the other side didn't fail before.
use Rattle.std.proofs.Common.{◌≡◌, true, false, length}
use Rattle.relay_loop.specs.declared.sending.Flow.TheVariants as flow
use Rattle.relay_loop.specs.Sending.{Sends}
use Rattle.relay_loop.proofs.sending.send.Given as goal

abbrev pub invariant-loop-to : goal.invariant-loop-to
invariant-loop-to g l = record { alive : l.way.lost ≡ false; sends : Sends true flow.Going l.to.0 l.fn.way l.way (g.O.Outside.told l.fn.outside) (g.O.Outside.told l.outside) }

abbrev pub decreases-loop-to : goal.decreases-loop-to
decreases-loop-to g l = length l.way.printed.items
