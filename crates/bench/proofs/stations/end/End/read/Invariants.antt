use Rattle.std.proofs.Common.{length}
use Rattle.bench.proofs.stations.end.End.read.Given as goal

abbrev pub decreases-loop-left : goal.decreases-loop-left
decreases-loop-left l = length l.left
