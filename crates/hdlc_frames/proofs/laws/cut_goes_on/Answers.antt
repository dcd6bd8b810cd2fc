use Rattle.hdlc_frames.proofs.CutLaws as cuts
use Rattle.hdlc_frames.proofs.laws.cut_goes_on.Goals as goal

pub returns : goal.returns
returns c = cuts.cut_goes_on
