use Rattle.hdlc_frames.proofs.WritingLaws as written
use Rattle.hdlc_frames.proofs.laws.frame_length.Goals as goal

pub returns : goal.returns
returns c = written.spelling_room c.content_reads_back.ensures
