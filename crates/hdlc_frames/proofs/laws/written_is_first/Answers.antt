use Rattle.hdlc_frames.proofs.WrittenLaws as written
use Rattle.hdlc_frames.proofs.laws.written_is_first.Goals as goal

pub returns : goal.returns
returns c = written.written_is_first c.content_reads_back.ensures
