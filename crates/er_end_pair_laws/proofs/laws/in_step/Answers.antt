use Rattle.er_end_pair_laws.proofs.Apart.{in_step}
use Rattle.er_end_pair_laws.proofs.laws.in_step.Goals as goal

pub returns : goal.returns
returns c = in_step c.loss_free_laws_below.ensures
