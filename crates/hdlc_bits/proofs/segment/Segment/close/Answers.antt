use Rattle.std.proofs.Common.{refl}
use Rattle.hdlc_bits.proofs.BufferLaws.{buffer_bits-none}
use Rattle.hdlc_bits.proofs.segment.Segment.close.Goals as goal

pub returns-clause-kept : goal.returns-clause-kept
returns-clause-kept c = rw buffer_bits-none refl
