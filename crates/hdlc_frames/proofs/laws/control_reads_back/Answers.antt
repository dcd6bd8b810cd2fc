use Rattle.hdlc_frames.proofs.ControlLaws as controls
use Rattle.hdlc_frames.proofs.laws.control_reads_back.Goals as goal

pub returns : goal.returns
returns c = controls.control_reads_back
