use Rattle.hdlc_frames.proofs.CutLaws as cuts
use Rattle.hdlc_frames.proofs.laws.verdicts_are_frames.Goals as goal

pub returns : goal.returns
returns c = cuts.verdicts_are_frames
