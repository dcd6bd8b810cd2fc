use Rattle.loop_model.proofs.laws.faults.Goals as goal
use Rattle.loop_model.proofs.Failings.{have_failed}

pub returns : goal.returns
returns c = have_failed
