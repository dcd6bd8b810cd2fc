use Rattle.loop_model.proofs.laws.unmade.Goals as goal
use Rattle.loop_model.proofs.Unmade.{unmade_is_closed}

pub returns : goal.returns
returns c = unmade_is_closed
