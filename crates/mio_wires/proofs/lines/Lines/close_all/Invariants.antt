-- So many are open as there are turns left.
use Rattle.std.proofs.Common.{◌≡◌, ◌+◌, length}
use Rattle.mio_wires.proofs.lines.Lines.close_all.Given as goal

abbrev pub invariant-loop : goal.invariant-loop
invariant-loop l = record { left : length l.self.places.items + l.counter ≡ l.end }
