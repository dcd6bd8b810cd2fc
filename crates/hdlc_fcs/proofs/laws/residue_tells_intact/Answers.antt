use Rattle.hdlc_fcs.proofs.ContentLaws as contents
use Rattle.hdlc_fcs.proofs.laws.residue_tells_intact.Goals as goal

pub returns : goal.returns
returns c = contents.residue_tells_intact
