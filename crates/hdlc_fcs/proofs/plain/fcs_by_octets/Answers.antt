use Rattle.std.proofs.Common.{ap, bit_xor}
use Rattle.hdlc_fcs.proofs.DivisionLaws.{fcs_of-register}
use Rattle.hdlc_fcs.proofs.plain.fcs_by_octets.Goals as goal

pub returns : goal.returns
returns c = rw (fcs_of-register c.args.octets.now) (ap (λ r. bit_xor r 65535) c.shift_one_by_one.ensures)
