use Rattle.loop_model.proofs.laws.sessions.Goals as goal
use Rattle.loop_model.proofs.Orders.{few_are_live, sessions_rise}

pub returns : goal.returns
returns c = record { few = few_are_live; rise = sessions_rise }
