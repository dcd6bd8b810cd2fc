use Rattle.relay_model.proofs.GivenLoads as lemmas
use Rattle.relay_model.proofs.laws.given_begins.Goals as goal

pub returns : goal.returns
returns c = lemmas.given_begins
