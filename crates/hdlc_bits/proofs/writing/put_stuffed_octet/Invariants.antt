use Rattle.std.proofs.Common.{take}
use Rattle.bit_lists.specs.LowestFirst.{low_bits}
use Rattle.hdlc_bits.proofs.WritingLaws.{Writes}
use Rattle.hdlc_bits.proofs.writing.put_stuffed_octet.Given as goal

abbrev pub invariant-loop-place : goal.invariant-loop-place
invariant-loop-place l = Writes l.fn.out l.out l.fn.ones (take l.place (low_bits 8 l.fn.octet)) l.ones
