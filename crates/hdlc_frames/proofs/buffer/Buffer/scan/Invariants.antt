use Rattle.std.proofs.Common.{◌-◌, length}
use Rattle.hdlc_frames.specs.Scanning.{Advances}
use Rattle.hdlc_frames.specs.Buffers.{kept_by}
use Rattle.hdlc_frames.proofs.buffer.Buffer.scan.Given as goal

abbrev pub invariant-loop-at : goal.invariant-loop-at
invariant-loop-at l = Advances (kept_by l.fn.self) l.piece l.at (kept_by l.self)

abbrev pub decreases-loop-at : goal.decreases-loop-at
decreases-loop-at l = length l.piece - l.at
