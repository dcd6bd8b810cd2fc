use Rattle.hdlc_frames.proofs.CutLaws as cuts
use Rattle.hdlc_frames.proofs.laws.same_octets_same_cut.Goals as goal

pub returns : goal.returns
returns c = cuts.same_octets_same_cut
