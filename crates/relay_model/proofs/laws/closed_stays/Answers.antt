use Rattle.relay_model.proofs.GivenLoads as lemmas
use Rattle.relay_model.proofs.laws.closed_stays.Goals as goal

pub returns : goal.returns
returns c = lemmas.closed_stays
