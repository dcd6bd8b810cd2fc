use Rattle.loop_model.proofs.laws.moments.Goals as goal
use Rattle.loop_model.proofs.Untils.{expired_are_closed, turns_wait}

pub returns : goal.returns
returns c = record { expired = expired_are_closed; until = turns_wait }
