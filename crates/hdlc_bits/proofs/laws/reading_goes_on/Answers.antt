use Rattle.hdlc_bits.proofs.CallLaws as calls
use Rattle.hdlc_bits.proofs.laws.reading_goes_on.Goals as goal

pub returns : goal.returns
returns c = calls.reading_goes_on
