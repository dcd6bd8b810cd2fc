use Rattle.hdlc_frames.proofs.WrittenLaws as written
use Rattle.hdlc_frames.proofs.laws.written_are_read.Goals as goal

pub returns : goal.returns
returns c = written.written_are_read c.content_reads_back.ensures
