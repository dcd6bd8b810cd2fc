use Rattle.relay_model.proofs.LossyLines as lemmas
use Rattle.relay_model.proofs.laws.losing_line.Goals as goal

pub returns : goal.returns
returns c = lemmas.losing_line c.flag_parts.ensures
