use Rattle.hdlc_frames.proofs.CutLaws as cuts
use Rattle.hdlc_frames.proofs.laws.any_cut_is_whole.Goals as goal

pub returns : goal.returns
returns c = cuts.any_cut_is_whole
