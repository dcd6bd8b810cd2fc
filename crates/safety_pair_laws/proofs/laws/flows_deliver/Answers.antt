use Rattle.safety_pair_laws.proofs.SetUp.{flows_deliver}
use Rattle.safety_pair_laws.proofs.laws.flows_deliver.Goals as goal

pub returns : goal.returns
returns c = flows_deliver c.steps.ensures.each c.mac_below.ensures c.spelled_is_read.ensures
