use Rattle.er_end_pair_laws.proofs.Ordered.{prefix}
use Rattle.er_end_pair_laws.proofs.laws.prefix.Goals as goal

pub returns : goal.returns
returns c = prefix c.laws_below.ensures
