use Rattle.std.proofs.Common.{◌-◌, length}
use Rattle.hdlc_frames.proofs.FirstCloseLaws.{Between}
use Rattle.hdlc_frames.proofs.scanning.first_frame.Given as goal

abbrev pub invariant-loop-count : goal.invariant-loop-count
invariant-loop-count l = Between l.octets l.at

abbrev pub decreases-loop-count : goal.decreases-loop-count
decreases-loop-count l = length l.octets - l.at
