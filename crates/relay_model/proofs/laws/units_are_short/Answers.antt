use Rattle.relay_model.proofs.CutFrames as lemmas
use Rattle.relay_model.proofs.laws.units_are_short.Goals as goal

pub returns : goal.returns
returns c = lemmas.units_are_short c.flag_parts.ensures
