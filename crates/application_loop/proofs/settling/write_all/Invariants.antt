-- What was written is the front of what waited.
use Rattle.std.proofs.Common.{length}
use Rattle.application_port.specs.Ports.{output_of}
use Rattle.application_loop.specs.Writing.{WritesFrom, IsWrittenFrom}
use Rattle.application_loop.proofs.settling.write_all.Given as goal

abbrev pub invariant-loop-outside : goal.invariant-loop-outside
invariant-loop-outside g l = record {
  writes : WritesFrom 0 (g.O.Outside.told l.fn.outside) (g.O.Outside.told l.outside) (output_of l.fn.port) (output_of l.port);
  port : IsWrittenFrom l.fn.port l.port;
}

abbrev pub decreases-loop-outside : goal.decreases-loop-outside
decreases-loop-outside g l = length (output_of l.port)
