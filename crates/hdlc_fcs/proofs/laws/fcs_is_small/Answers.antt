use Rattle.hdlc_fcs.proofs.ContentLaws as contents
use Rattle.hdlc_fcs.proofs.laws.fcs_is_small.Goals as goal

pub returns : goal.returns
returns c = contents.fcs_is_small
