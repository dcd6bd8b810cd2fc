use Rattle.hdlc_bits.proofs.WrittenLaws as written
use Rattle.hdlc_bits.proofs.laws.frame_length.Goals as goal

pub returns : goal.returns
returns c = written.frame_length c.content_reads_back.ensures
