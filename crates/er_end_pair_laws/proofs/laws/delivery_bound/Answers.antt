use Rattle.er_end_pair_laws.proofs.Bounded.{delivery_bound, drain_empties}
use Rattle.er_end_pair_laws.proofs.laws.delivery_bound.Goals as goal

pub returns-clause-bound : goal.returns-clause-bound
returns-clause-bound c = delivery_bound c.loss_free_laws_below.ensures

pub returns-clause-drain : goal.returns-clause-drain
returns-clause-drain c = drain_empties c.loss_free_laws_below.ensures
