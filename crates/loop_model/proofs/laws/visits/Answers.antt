use Rattle.loop_model.proofs.laws.visits.Goals as goal
use Rattle.loop_model.proofs.Visitings.{turns_visit}

pub returns : goal.returns
returns c = turns_visit
