use Rattle.std.proofs.Common.{sym}
use Rattle.hdlc_bits.proofs.BitLaws.{ones_from_place}
use Rattle.hdlc_bits.proofs.segment.ones_from.Goals as goal

pub returns : goal.returns
returns c = rw (sym c.trailing_ones.ensures) at (ones_from_place c.args.octet c.args.place c.ranges.octet.fits c.requires)
