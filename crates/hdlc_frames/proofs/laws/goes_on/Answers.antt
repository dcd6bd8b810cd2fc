use Rattle.hdlc_frames.proofs.CutLaws as cuts
use Rattle.hdlc_frames.proofs.laws.goes_on.Goals as goal

pub returns : goal.returns
returns c = cuts.goes_on
