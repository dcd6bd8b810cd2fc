use Rattle.hdlc_bits.proofs.CallLaws as calls
use Rattle.hdlc_bits.proofs.laws.verdicts_from_the_first.Goals as goal

pub returns : goal.returns
returns c = calls.verdicts_from_the_first
