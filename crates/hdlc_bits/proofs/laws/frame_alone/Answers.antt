use Rattle.hdlc_bits.proofs.WrittenLaws as written
use Rattle.hdlc_bits.proofs.laws.frame_alone.Goals as goal

pub returns : goal.returns
returns c = written.frame_alone c.content_reads_back.ensures c.fcs_is_small.ensures
