use Rattle.hdlc_frames.proofs.SpellingLaws as written
use Rattle.hdlc_frames.proofs.laws.frame_reads_as_itself.Goals as goal

pub returns : goal.returns
returns c = written.frame_reads_as_itself c.content_reads_back.ensures
