-- The octets that came before those that are left were heard so far.
use Rattle.std.proofs.Common.{length}
use Rattle.embedded_end.proofs.Doing.{HeardTo}
use Rattle.embedded_end.proofs.side.Side.receive.Given as goal

abbrev pub invariant-loop-rest : goal.invariant-loop-rest
invariant-loop-rest l = HeardTo l.octets l.rest l.fn.self l.self

abbrev pub decreases-loop-rest : goal.decreases-loop-rest
decreases-loop-rest l = length l.rest
