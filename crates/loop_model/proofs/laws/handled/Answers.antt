use Rattle.loop_model.proofs.laws.handled.Goals as goal
use Rattle.loop_model.proofs.Handling.{happenings_are_handled}

pub returns : goal.returns
returns c = happenings_are_handled
