-- No connection is opened or closed.
use Rattle.std.proofs.Common.{◌≡◌}
use Rattle.mio_wires.proofs.lines.Lines.hear_all.Given as goal

abbrev pub invariant-loop-event : goal.invariant-loop-event
invariant-loop-event l = record { places : l.self.places ≡ l.fn.self.places }
