use Rattle.loop_model.proofs.laws.closings.Goals as goal
use Rattle.loop_model.proofs.Keepers.{others_are_closed}

pub returns : goal.returns
returns c = others_are_closed
