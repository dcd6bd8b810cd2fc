use Rattle.er_end_pair_laws.proofs.Delivered.{delivery}
use Rattle.er_end_pair_laws.proofs.laws.delivery.Goals as goal

pub returns : goal.returns
returns c = delivery c.loss_free_laws_below.ensures
