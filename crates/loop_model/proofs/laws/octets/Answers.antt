use Rattle.loop_model.proofs.laws.octets.Goals as goal
use Rattle.loop_model.proofs.Givings.{accounted}

pub returns : goal.returns
returns c = accounted
