use Rattle.relay_model.proofs.GivenLoads as lemmas
use Rattle.relay_model.proofs.laws.passed_is_sent.Goals as goal

pub returns : goal.returns
returns c = lemmas.passed_is_sent
