use Rattle.hdlc_bits.proofs.CallLaws as calls
use Rattle.hdlc_bits.proofs.laws.frames_grow.Goals as goal

pub returns : goal.returns
returns c = calls.frames_grow
