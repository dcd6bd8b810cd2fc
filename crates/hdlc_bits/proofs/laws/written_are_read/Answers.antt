use Rattle.hdlc_bits.proofs.WrittenLaws as written
use Rattle.hdlc_bits.proofs.laws.written_are_read.Goals as goal

pub returns : goal.returns
returns c = written.written_are_read c.content_reads_back.ensures c.fcs_is_small.ensures
