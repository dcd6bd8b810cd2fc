use Rattle.std.proofs.Common.{◌≡◌, ◌/◌, ◌%◌, arith}
use Rattle.hdlc_fcs.proofs.SlicingLaws.{eight_after}
use Rattle.hdlc_fcs.proofs.sequence.shift_eight.Goals as goal

pub returns : goal.returns
returns c =
    let high : c.args.register / 256 % 256 ≡ c.args.register / 256 = omega (arith, c.ranges.register.fits) in
    rw (c.entry.ensures, c.entry-2.ensures, c.entry-3.ensures, c.entry-4.ensures, c.entry-5.ensures, c.entry-6.ensures, c.entry-7.ensures, c.entry-8.ensures, c.to_le_bytes.ensures, high)
    (eight_after c.args.register c.args.octets.now c.told-octets c.fits-octets)
