-- None is open.
use Rattle.std.proofs.Common.{◌≡◌, []}
use Rattle.mio_wires.proofs.sockets.Sockets.finish.Given as goal

abbrev pub invariant-loop : goal.invariant-loop
invariant-loop g l = record { none : l.self.lines.places.items ≡ [] }
