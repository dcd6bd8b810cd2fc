use Rattle.loop_model.proofs.laws.turns.Goals as goal
use Rattle.loop_model.proofs.Countings.{counted}

pub returns : goal.returns
returns c = counted
