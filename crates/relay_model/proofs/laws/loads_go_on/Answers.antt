use Rattle.relay_model.proofs.GivenLoads as lemmas
use Rattle.relay_model.proofs.laws.loads_go_on.Goals as goal

pub returns : goal.returns
returns c = lemmas.loads_go_on
