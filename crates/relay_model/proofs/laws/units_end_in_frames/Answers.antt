use Rattle.relay_model.proofs.CutFrames as lemmas
use Rattle.relay_model.proofs.laws.units_end_in_frames.Goals as goal

pub returns : goal.returns
returns c = lemmas.units_end_in_frames c.flag_parts.ensures
