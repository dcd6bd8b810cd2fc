use Rattle.hdlc_bits.proofs.CallLaws as calls
use Rattle.hdlc_bits.proofs.laws.verdicts_are_frames.Goals as goal

pub returns : goal.returns
returns c = calls.verdicts_are_frames
