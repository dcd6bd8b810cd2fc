use Rattle.std.proofs.Common.{◌-◌, ◌≤◌}
use Rattle.hdlc_bits.specs.Advancing.{Advances}
use Rattle.hdlc_bits.specs.Pieces.{bits_between}
use Rattle.hdlc_bits.specs.SegmentViews.{kept_in}
use Rattle.hdlc_bits.proofs.segment.Segment.scan.Given as goal

abbrev pub invariant-loop-at : goal.invariant-loop-at
invariant-loop-at l = record {
  behind : l.first ≤ l.at;
  before : l.at ≤ l.end;
  advances : Advances (kept_in l.fn.self) (bits_between l.octets l.first l.end) (l.at - l.first) (kept_in l.self);
}

abbrev pub decreases-loop-at : goal.decreases-loop-at
decreases-loop-at l = l.end - l.at
