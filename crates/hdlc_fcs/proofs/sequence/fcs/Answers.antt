use Rattle.std.proofs.Common.{ap, bit_xor}
use Rattle.hdlc_fcs.proofs.DivisionLaws.{fcs_of-register}
use Rattle.hdlc_fcs.proofs.sequence.fcs.Goals as goal

pub returns : goal.returns
returns c = rw (fcs_of-register c.args.octets.now) (ap (λ r. bit_xor r 65535) c.shift_octets.ensures)
