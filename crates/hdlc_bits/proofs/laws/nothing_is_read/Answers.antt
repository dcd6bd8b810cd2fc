use Rattle.hdlc_bits.proofs.CallLaws as calls
use Rattle.hdlc_bits.proofs.laws.nothing_is_read.Goals as goal

pub returns : goal.returns
returns c = calls.nothing_is_read
