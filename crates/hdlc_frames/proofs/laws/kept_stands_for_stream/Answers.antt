use Rattle.hdlc_frames.proofs.CutLaws as cuts
use Rattle.hdlc_frames.proofs.laws.kept_stands_for_stream.Goals as goal

pub returns : goal.returns
returns c = cuts.kept_stands_for_stream
