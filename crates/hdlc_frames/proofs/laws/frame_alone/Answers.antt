use Rattle.hdlc_frames.proofs.SpellingLaws as written
use Rattle.hdlc_frames.proofs.laws.frame_alone.Goals as goal

pub returns : goal.returns
returns c = written.frame_alone c.content_reads_back.ensures
