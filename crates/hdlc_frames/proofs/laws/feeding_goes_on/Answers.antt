use Rattle.hdlc_frames.proofs.CutLaws as cuts
use Rattle.hdlc_frames.proofs.laws.feeding_goes_on.Goals as goal

pub returns : goal.returns
returns c = cuts.feeding_goes_on
