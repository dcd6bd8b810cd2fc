-- Octets so far were taken and told, and this rest is left.
use Rattle.std.proofs.Common.{◌≡◌, length}
use Rattle.relay_loop.specs.WaySteps.{TakesSoFar}
use Rattle.relay_loop.specs.Reading.{PutsNews}
use Rattle.relay_loop.proofs.reading.take_all.Given as goal

abbrev pub invariant-loop-rest : goal.invariant-loop-rest
invariant-loop-rest l = record {
  room : l.came.capacity ≡ 4096;
  taken : TakesSoFar l.script l.octets l.rest l.fn.way l.way;
  puts : PutsNews l.at.number l.fn.lines.items l.lines.items;
}

abbrev pub decreases-loop-rest : goal.decreases-loop-rest
decreases-loop-rest l = length l.rest
