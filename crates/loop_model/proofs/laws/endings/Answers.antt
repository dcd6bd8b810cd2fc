use Rattle.loop_model.proofs.laws.endings.Goals as goal
use Rattle.loop_model.proofs.Endings.{ends_are_told}

pub returns : goal.returns
returns c = ends_are_told
