use Rattle.std.proofs.Common.{take}
use Rattle.hdlc_fcs.specs.FrameCheck.{sent_bits}
use Rattle.hdlc_bits.proofs.WritingLaws.{Writes}
use Rattle.hdlc_bits.proofs.writing.put_stuffed.Given as goal

abbrev pub invariant-loop-octet : goal.invariant-loop-octet
invariant-loop-octet l = Writes l.fn.out l.out l.fn.ones (sent_bits (take l.octet-index l.content)) l.ones
