use Rattle.hdlc_fcs.proofs.ContentLaws as contents
use Rattle.hdlc_fcs.proofs.laws.content_reads_back.Goals as goal

pub returns : goal.returns
returns c = contents.content_reads_back
