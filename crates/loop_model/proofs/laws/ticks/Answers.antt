use Rattle.loop_model.proofs.laws.ticks.Goals as goal
use Rattle.loop_model.proofs.Ticking.{ticks_are_due}

pub returns : goal.returns
returns c = ticks_are_due
