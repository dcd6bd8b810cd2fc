use Rattle.loop_model.proofs.laws.clock.Goals as goal
use Rattle.loop_model.proofs.Timing.{events_are_timed}

pub returns : goal.returns
returns c = events_are_timed
