use Rattle.er_end_pair_laws.proofs.Apart.{in_step_while_ordered}
use Rattle.er_end_pair_laws.proofs.laws.in_step_while_ordered.Goals as goal

pub returns : goal.returns
returns c = in_step_while_ordered c.laws_below.ensures
