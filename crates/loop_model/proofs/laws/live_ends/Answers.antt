use Rattle.loop_model.proofs.laws.live_ends.Goals as goal
use Rattle.loop_model.proofs.Emptying.{sessions_are_led}

pub returns : goal.returns
returns c = sessions_are_led
