use Rattle.hdlc_bits.proofs.CallLaws as calls
use Rattle.hdlc_bits.proofs.laws.same_bits_same_verdicts.Goals as goal

pub returns : goal.returns
returns c = calls.same_bits_same_verdicts
