use Rattle.er_end_model.proofs.Giving.{events_give}
use Rattle.er_end_model.proofs.laws.events_give.Goals as goal

pub returns : goal.returns
returns c = events_give
