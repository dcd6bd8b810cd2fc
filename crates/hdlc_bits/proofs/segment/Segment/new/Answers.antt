use Rattle.std.proofs.Common.{refl}
use Rattle.hdlc_bits.proofs.BufferLaws.{buffer_bits-none}
use Rattle.hdlc_bits.proofs.segment.Segment.new.Goals as goal

pub returns : goal.returns
returns c = rw buffer_bits-none refl
