use Rattle.hdlc_bits.specs.Pieces.{bits_between}
use Rattle.hdlc_bits.specs.SegmentViews.{kept_in}
use Rattle.hdlc_bits.proofs.DeframingLaws.{scan_stays}
use Rattle.hdlc_bits.proofs.deframer.BitDeframer.read.Goals as goal

pub invariant_of-self : goal.invariant_of-self
invariant_of-self c = scan_stays (kept_in c.self.inside.segment) (kept_in c.scan-used.new.self) (bits_between c.args.octets.now c.args.first c.args.end) c.self.invariant c.scan-used.ensures.kept
