-- Of those that are left as many stay as of all.
use Rattle.std.proofs.Common.{◌≡◌, ◌+◌, length}
use Rattle.mio_wires.specs.Leaving.{staying}
use Rattle.mio_wires.proofs.lines.Lines.let_go_by.Given as goal

abbrev pub invariant-loop : goal.invariant-loop
invariant-loop l = record {
  same : staying l.now l.self.leaving.waits ≡ staying l.now l.fn.self.leaving.waits;
  left : length l.self.leaving.waits + l.counter ≡ l.end;
  places : l.self.places ≡ l.fn.self.places;
  queue : l.self.queue ≡ l.fn.self.queue;
}
