use Rattle.er_end_pair_laws.proofs.Drained.{few_wait}
use Rattle.er_end_pair_laws.proofs.laws.few_wait.Goals as goal

pub returns : goal.returns
returns c = few_wait c.loss_free_laws_below.ensures
