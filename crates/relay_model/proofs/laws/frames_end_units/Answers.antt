use Rattle.relay_model.proofs.CutFrames as lemmas
use Rattle.relay_model.proofs.laws.frames_end_units.Goals as goal

pub returns : goal.returns
returns c = lemmas.frames_end_units c.flag_parts.ensures
